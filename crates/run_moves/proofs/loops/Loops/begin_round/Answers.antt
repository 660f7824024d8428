use Rattle.std.proofs.Common.{◌∙◌, ◌-◌, ap, arith, refl, subst}
use Rattle.std.proofs.lemmas.Bool.{false≢true}
use Rattle.page_meaning.specs.Loops.{round_begun}
use Rattle.page_table.specs.Open.{Loop}
use Rattle.run_moves.proofs.Advancing.{last_kept, last_seen, none_open}
use Rattle.run_moves.proofs.loops.Loops.begin_round.Goals as goal
use Rattle.run_world.specs.Part.{Doing}

pub unreachable-requires : goal.unreachable-requires
unreachable-requires g c =
    let held = c.self.inside.loops in
    none_open held.items c.args.self.now c.self.view_is (λ h. false≢true (c.in_default.ensures.variant.1 (omega (arith, h, held.ok.0)))) c.requires.opened

pub returns-clause-same : goal.returns-clause-same
returns-clause-same g c =
    let held = c.self.inside.loops in
    let some = c.in-Some.ensures.variant.0 refl in
    last_kept held.items (held.len - 1) c.in-Some.innermost.now c.begin_round.new.looping c.args.self.now (omega (arith, some, held.ok.0)) c.in-Some.ensures.value c.begin_round.ensures.same c.self.view_is

pub returns-clause-does : goal.returns-clause-does
returns-clause-does g c = λ l outer r rest first rounds i n m.
    let held = c.self.inside.loops in
    let some = c.in-Some.ensures.variant.0 refl in
    let same = last_seen held.items (held.len - 1) c.in-Some.innermost.now c.args.self.now (omega (arith, some, held.ok.0)) c.in-Some.ensures.value c.self.view_is l outer first in
    subst (λ (x : Loop). Doing g.W.World.reached g.W.World.replies (λ (u : Unit {0}). u) (λ place. round_begun place x.variable x.status x.values r) c.args.world.now c.begin_round.new.world c.begin_round.result) same
    (c.begin_round.ensures.does r rest (ap (λ (x : Loop). x.rounds) same ∙ rounds) i n m)
