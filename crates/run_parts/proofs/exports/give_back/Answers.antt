use Rattle.std.proofs.Common.{Err, List, Ok, ap, map, subst, ◌∙◌}
use Rattle.run_world.proofs.Exits.{err_as}
use Rattle.run_parts.proofs.ExportLemmas.{Making, given_failed, given_well, giving_adds}
use Rattle.run_world.proofs.Parts.{short_at}
use Rattle.run_parts.proofs.exports.give_back.Goals as goal
use Rattle.run_world.specs.Part.{Doing}
use Rattle.run_parts.specs.Exports.{Change, change_of, own_changes}
use Rattle.run_world.specs.Seats.{export_of}
use Rattle.page_meaning.specs.Exports.{is_at_end}
use Rattle.page_meaning.specs.Variables.{entries_of_frame}

pub returns-in_err-changes-clause-does : goal.returns-in_err-changes-clause-does
returns-in_err-changes-clause-does g c before is =
    short_at c.args.world.now c.from_residual.result c.from_residual.ensures.1 (λ place. giving_adds (map export_of c.args.exports.now) before c.args.frame place)

pub returns-in_err-make_all-clause-does : goal.returns-in_err-make_all-clause-does
returns-in_err-make_all-clause-does g c before is =
    let xs = map export_of c.args.exports.now in
    let same = ap (map change_of) c.deref.ensures.value ∙ c.in_ok-changes.ensures ∙ ap (λ scopes. own_changes is_at_end xs (entries_of_frame scopes scopes.current)) c.scopes.ensures in
    err_as c.from_residual-in_err-make_all.result c.in_err-make_all.field-0.0 c.from_residual-in_err-make_all.ensures.1
    (given_failed g.W.World.variables (λ first w origin s h. (g.met.W.World.tells first w origin s h).0) xs before c.args.frame c.args.world.now c.turn_to.new.self c.make_all.new.world c.in_err-make_all.field-0.0 c.turn_to.ensures.turned c.turn_to.ensures.replies
    (subst (λ (cs : List Change). Doing g.W.World.reached g.W.World.replies (λ (u : Unit {0}). u) (Making cs) c.turn_to.new.self c.make_all.new.world (Err c.in_err-make_all.field-0.0)) same
    c.in_err-make_all.ensures.does))

pub returns-clause-does : goal.returns-clause-does
returns-clause-does g c before is =
    let xs = map export_of c.args.exports.now in
    let same = ap (map change_of) c.deref.ensures.value ∙ c.in_ok-changes.ensures ∙ ap (λ scopes. own_changes is_at_end xs (entries_of_frame scopes scopes.current)) c.scopes.ensures in
    given_well g.W.World.variables (λ first w origin s h. (g.met.W.World.tells first w origin s h).0) xs before c.args.frame c.args.world.now c.turn_to.new.self c.make_all.new.world c.make_all-2.new.world c.make_all-2.result c.turn_to.ensures.turned c.turn_to.ensures.replies
    (subst (λ (cs : List Change). Doing g.W.World.reached g.W.World.replies (λ (u : Unit {0}). u) (Making cs) c.turn_to.new.self c.make_all.new.world (Ok tt)) same c.in_ok-make_all.ensures.does)
    (subst (λ (cs : List Change). Doing g.W.World.reached g.W.World.replies (λ (u : Unit {0}). u) (Making cs) c.make_all.new.world c.make_all-2.new.world c.make_all-2.result) is c.make_all-2.ensures.does)
