use Rattle.std.proofs.Common.{◌∙◌, ap, take, rules, tests}
use Rattle.std.specs.Prelude.{◌==◌, codes}
use Rattle.std.specs.Str.{str_eq_ignore_ascii_case}
use Rattle.std.proofs.lemmas.Iterator.{YieldsList-from_slice}
use Rattle.std.proofs.lemmas.Iterator.Search.{position_from_yields_List}
use Rattle.httparse.specs.Grammar.{trim_ows}
use Rattle.http_in.proofs.Places.{place_or_end}
use Rattle.http_in.proofs.params.is_form_type.Goals as goal

pub returns : goal.returns
returns c =
    let found = position_from_yields_List (λ b. b == 59) _ _ c.position.result c.position.ensures.ran (YieldsList-from_slice c.args.value.now cc) (λ x b q k. search (rules, tests)) in
    let end = c.unwrap_or-end.ensures ∙ place_or_end (λ b. b == 59) c.args.value.now c.position.result found in
    c.is_same.ensures ∙ ap (λ type. str_eq_ignore_ascii_case type (codes "application/x-www-form-urlencoded")) (c.trim.ensures ∙ ap (λ n. trim_ows (take n c.args.value.now)) end)
