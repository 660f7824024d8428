use Rattle.std.proofs.Common.{◌∙◌, ◌&&◌, sym, rules, tests}
use Rattle.std.specs.Prelude.{codes}
use Rattle.std.proofs.lemmas.Iterator.{YieldsList-from_slice}
use Rattle.std.proofs.lemmas.Iterator.Search.{any_from_yields_List}
use Rattle.http_in.specs.Params.{is_form_type}
use Rattle.http_in.proofs.FieldLemmas.{has_name, list_any-values}
use Rattle.http_in.proofs.params.has_form.Goals as goal

pub returns-then-eq : goal.returns-then-eq
returns-then-eq c =
    let found = any_from_yields_List (λ field. has_name (codes "content-type") field && is_form_type field.value) _ _ c.any.result c.any.ensures.ran
    (YieldsList-from_slice c.args.fields.now cc)
    (λ x b q k. search (rules, tests))
    ∙ list_any-values is_form_type (codes "content-type") c.args.fields.now in
    let post = sym c.eq.ensures ∙ c.if-eq.true in
    rw post found
