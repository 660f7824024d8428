use Rattle.std.proofs.Common.{◌∙◌, ap, sym}
use Rattle.std.specs.Prelude.{map}
use Rattle.std.specs.List.{list_any}
use Rattle.run_moves.proofs.AskLemmas.{first_text, redirect_adds, redirect_committed, redirect_control, redirect_well}
use Rattle.run_world.proofs.Parts.{short_at}
use Rattle.run_moves.proofs.leave.ask_redirect.Goals as goal
use Rattle.page_meaning.specs.Addresses.{is_control}
use Rattle.page_table.specs.Operations.{text_at}
use Rattle.pg_value.specs.Value.{datum_of}

pub returns-then-has_committed-clause-does : goal.returns-then-has_committed-clause-does
returns-then-has_committed-clause-does g c =
    redirect_committed g.W.World.committed (λ first w origin s h. (g.met.W.World.tells first w origin s h).3) c.args.world.now (text_at 0 (map datum_of c.args.values.now)) (sym c.has_committed.ensures ∙ c.if-has_committed.true)

pub returns-then-has_control-clause-does : goal.returns-then-has_control-clause-does
returns-then-has_control-clause-does g c =
    let url = c.text_of-address.ensures ∙ first_text c.args.values.now c.index-values-0.result c.requires.some c.index-values-0.is in
    redirect_control g.W.World.committed (λ first w origin s h. (g.met.W.World.tells first w origin s h).3) c.args.world.now (text_at 0 (map datum_of c.args.values.now)) (sym c.has_committed.ensures ∙ c.if-has_committed.false)
    (ap (list_any is_control) (sym (c.as_bytes.ensures.value ∙ url)) ∙ sym c.has_control.ensures ∙ c.if-has_control.true)

pub returns-in_err-copy_of-clause-does : goal.returns-in_err-copy_of-clause-does
returns-in_err-copy_of-clause-does g c = short_at c.args.world.now c.from_residual.result c.from_residual.ensures.1 (λ place. redirect_adds place (text_at 0 (map datum_of c.args.values.now)))

pub returns-clause-does : goal.returns-clause-does
returns-clause-does g c =
    let url = c.text_of-address.ensures ∙ first_text c.args.values.now c.index-values-0.result c.requires.some c.index-values-0.is in
    redirect_well g.W.World.committed (λ first w origin s h. (g.met.W.World.tells first w origin s h).3) c.args.world.now (text_at 0 (map datum_of c.args.values.now)) c.in_ok-copy_of.field-0 (c.in_ok-copy_of.ensures ∙ url)
    (sym c.has_committed.ensures ∙ c.if-has_committed.false)
    (ap (list_any is_control) (sym (c.as_bytes.ensures.value ∙ url)) ∙ sym c.has_control.ensures ∙ c.if-has_control.false)
