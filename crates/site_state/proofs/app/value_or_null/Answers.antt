use Rattle.std.proofs.Common.{ap, sym, ◌∙◌}
use Rattle.pg_value.specs.Attrs.{entry_at}
use Rattle.pg_value.proofs.Inverses.{value_of-datum_of}
use Rattle.site_words.specs.App.{value_or_null}
use Rattle.site_words.specs.declared.words.AppReply.TheVariants as answer
use Rattle.site_state.proofs.app.value_or_null.Goals as goal

pub returns-in_ok-copy-in-Some : goal.returns-in_ok-copy-in-Some
returns-in_ok-copy-in-Some c =
    ap (λ v. answer.Value v) (c.in_ok-copy-in-Some.ensures ∙ sym (value_of-datum_of c.in-Some.value.now)) ∙ ap (λ found. answer.Value (value_or_null found)) (c.in-Some.ensures ∙ ap (λ name. entry_at name c.args.app.now) c.as_str.ensures)
