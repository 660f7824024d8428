use Rattle.std.proofs.Common.{List, [], ◌∷◌, ap, refl, subst, sym, ℕ}
use Rattle.std.specs.Prelude.{reverse, take}
use Rattle.page_code.specs.declared.op.Op.TheVariants as op
use Rattle.page_meaning.specs.Bodies.{put_text}
use Rattle.pg_value.specs.Value.{datum_of}
use Rattle.run_moves.proofs.QuickExits.{done_lands}
use Rattle.run_moves.proofs.frequent.put_top.Goals as goal
use Rattle.run_moves.specs.Opened.{open_of}
use Rattle.run_world.specs.Part.{Doing}

pub returns-clause-lands : goal.returns-clause-lands
returns-clause-lands g c = λ serving seat.
    done_lands serving seat (open_of c.args.opened.now) op.Put op.Put 1 (datum_of c.in-Some.value.now ∷ []) c.drop_top.new.self c.requires.filled refl
    (sym (ap (λ xs. reverse (take 1 xs)) c.in-Some.ensures.1)) c.drop_top.ensures refl c.args.world.now c.put-done.new.self c.put-done.result (λ place s. refl)
    (subst (λ (t : List ℕ). Doing g.W.World.reached g.W.World.replies (λ (u : Unit {0}). u) (λ place. put_text place t) c.args.world.now c.put-done.new.self c.put-done.result) c.text_of.ensures c.put-done.ensures.does)
