use Rattle.std.proofs.Common.{ap, sym, ◌∙◌}
use Rattle.pg_value.specs.Attrs.{entry_at}
use Rattle.pg_value.proofs.Inverses.{value_of-datum_of}
use Rattle.site_words.specs.App.{ensure_reply}
use Rattle.site_words.specs.declared.words.AppReply.TheVariants as answer
use Rattle.site_state.proofs.app.found.Goals as goal

pub returns-in_ok-copy-in-Some : goal.returns-in_ok-copy-in-Some
returns-in_ok-copy-in-Some c =
    ap (λ v. answer.Value v) (c.in_ok-copy-in-Some.ensures ∙ sym (value_of-datum_of c.in-Some.value.now)) ∙ ap (λ found. ensure_reply found) (c.in-Some.ensures ∙ ap (λ name. entry_at name c.args.app.now) c.as_str.ensures)
