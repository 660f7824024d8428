use Rattle.std.proofs.Common.{sym, ap, ◌∙◌, drop, subst}
use Rattle.std.specs.List.{prefix_len}
use Rattle.std.specs.Str.{IsCharBoundary}
use Rattle.httparse.specs.Grammar.{is_ows}
use Rattle.run_values.proofs.CookieLemmas.{blank_cut, skipped_is}
use Rattle.run_values.proofs.blanks.trim_start.Goals as goal

pub split_at-requires : goal.split_at-requires
split_at-requires c =
    subst (IsCharBoundary c.args.text.now) (sym (c.blanks_first.ensures.value ∙ ap (prefix_len is_ows) c.as_bytes.ensures.value)) (blank_cut c.args.text.now c.utf8.text)

pub returns : goal.returns
returns c =
    c.split_at.ensures.back ∙ ap (λ n. drop n c.args.text.now) (c.blanks_first.ensures.value ∙ ap (prefix_len is_ows) c.as_bytes.ensures.value) ∙ skipped_is c.args.text.now
