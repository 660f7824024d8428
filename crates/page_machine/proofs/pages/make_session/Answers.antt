use Rattle.std.proofs.Common.{◌≡◌, ◌∙◌, sym, Bool, true, false, Option, Some, None, Ok, refl, rules}
use Rattle.std.specs.Prelude.{◌&&◌, IsNone, is_none, not}
use Rattle.page_machine.proofs.PageCalls.{begun_no, begun_yes, starts_is}
use Rattle.page_machine.proofs.pages.make_session.Goals as goal
use Rattle.page_meaning.specs.Went.{Did, Well}
use Rattle.run_world.proofs.Parts.{as_doing, well_doing}
use Rattle.run_world.specs.Part.{given}
use Rattle.run_world.specs.Programs.{program_of}

without_session : {X : Type 0} (a : Bool) (o : Option X) (c : Bool) → (a && is_none o && not c) ≡ true → IsNone o
without_session true None c e = refl
without_session true (Some x) c e = absurd (cc)
without_session false o c e = absurd (cc)

uncommitted : {X : Type 0} (a : Bool) (o : Option X) (c : Bool) → (a && is_none o && not c) ≡ true → c ≡ false
uncommitted true None false e = refl
uncommitted true None true e = absurd (cc)
uncommitted true (Some x) c e = absurd (cc)
uncommitted false o c e = absurd (cc)

pub fresh-requires : goal.fresh-requires
fresh-requires g c =
    let starts = sym c.starts_session.ensures ∙ c.if-starts_session.true in
    let vars = g.W.World.variables c.args.world.now in
    let none = without_session c.args.program.now.settings.session vars.session (g.W.World.committed c.args.world.now) starts in
    let free = uncommitted c.args.program.now.settings.session vars.session (g.W.World.committed c.args.world.now) starts in
    search rules

pub returns-then-starts_session-clause-does : goal.returns-then-starts_session-clause-does
returns-then-starts_session-clause-does g c =
    let program = program_of c.args.program.now in
    as_doing c.args.world.now c.fresh.new.self c.fresh.result
    (λ first origin s stands place a.
    begun_yes program (given a s)
    (sym (starts_is program (g.W.World.variables c.args.world.now) (g.W.World.committed c.args.world.now) (given a s) (g.met.W.World.tells first c.args.world.now origin s stands).0
    (g.met.W.World.tells first c.args.world.now origin s stands).3) ∙ sym c.starts_session.ensures ∙ c.if-starts_session.true))
    c.fresh.ensures.does

pub returns-clause-does : goal.returns-clause-does
returns-clause-does g c =
    let program = program_of c.args.program.now in
    as_doing {other = λ place s. let w : Did = Well tt s in w} c.args.world.now c.args.world.now (Ok tt)
    (λ first origin s stands place a.
    begun_no program (given a s)
    (sym (starts_is program (g.W.World.variables c.args.world.now) (g.W.World.committed c.args.world.now) (given a s) (g.met.W.World.tells first c.args.world.now origin s stands).0
    (g.met.W.World.tells first c.args.world.now origin s stands).3) ∙ sym c.starts_session.ensures ∙ c.if-starts_session.false))
    (well_doing c.args.world.now tt)
