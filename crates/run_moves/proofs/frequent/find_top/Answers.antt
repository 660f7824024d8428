use Rattle.std.proofs.Common.{Bool, [], arith, refl, subst}
use Rattle.page_code.specs.declared.op.Op.TheVariants as op
use Rattle.page_meaning.specs.Expressions.{variable_or_step}
use Rattle.pg_value.specs.Value.{datum_of}
use Rattle.run_moves.proofs.QuickExits.{value_lands}
use Rattle.run_moves.proofs.frequent.find_top.Goals as goal
use Rattle.run_moves.specs.Opened.{open_of}
use Rattle.run_world.specs.Part.{Doing}
use Rattle.run_world.specs.Seats.{seat_of}
use Rattle.scopes.specs.Scopes.{found}

pub returns-clause-lands : goal.returns-clause-lands
returns-clause-lands g c = λ serving.
    value_lands serving (seat_of c.args.seat.now) (open_of c.args.opened.now) (op.Find c.args.name.now) (op.Find c.args.name.now) 0 [] (open_of c.args.opened.now).stack (omega arith)
    refl refl refl refl c.args.world.now c.find-found.new.world c.find-found.result c.push_made.result c.push_made.new.stack (λ place s. refl)
    (subst (λ (b : Bool). Doing g.W.World.reached g.W.World.replies datum_of (λ place s. variable_or_step b place c.args.name.now (found s.scopes c.args.name.now) s) c.args.world.now c.find-found.new.world c.find-found.result) c.is_strict.ensures c.find-found.ensures.does)
    c.push_made.ensures
