use Rattle.std.proofs.Common.{subst, sym}
use Rattle.std.specs.Prelude.{OnOk}
use Rattle.page_machine.proofs.pages.flush_if.Goals as goal
use Rattle.page_meaning.specs.Meaning.{flush_if}
use Rattle.run_world.specs.Part.{Changes}

pub returns-then-flush-clause-ok : goal.returns-then-flush-clause-ok
returns-then-flush-clause-ok g c =
    subst (λ b. OnOk c.flush.result (Changes g.W.World.reached (flush_if b) c.args.world.now c.flush.new.self)) (sym c.if-flush.true) c.flush.ensures.ok

pub returns-else-flush-clause-ok : goal.returns-else-flush-clause-ok
returns-else-flush-clause-ok g c =
    subst (λ b. Changes g.W.World.reached (flush_if b) c.args.world.now c.args.world.now) (sym c.if-flush.false) (record { by = λ first origin s h. h })
