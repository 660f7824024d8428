use Rattle.std.proofs.Common.{List, [], ◌∷◌, ap, refl, subst, sym, ℕ}
use Rattle.std.specs.Prelude.{reverse, take}
use Rattle.page_code.specs.declared.op.Op.TheVariants as op
use Rattle.page_meaning.specs.Bodies.{put_text}
use Rattle.pg_text.specs.Escape.{escaped}
use Rattle.pg_value.specs.Value.{datum_of}
use Rattle.run_moves.proofs.QuickExits.{done_lands}
use Rattle.run_moves.proofs.frequent.put_escaped_top.Goals as goal
use Rattle.run_moves.specs.Opened.{open_of}
use Rattle.run_world.specs.Part.{Doing}

pub returns-clause-lands : goal.returns-clause-lands
returns-clause-lands g c = λ serving seat.
    done_lands serving seat (open_of c.args.opened.now) op.PutEscaped op.PutEscaped 1 (datum_of c.in-Some.value.now ∷ []) c.drop_top.new.self c.requires.filled refl
    (sym (ap (λ xs. reverse (take 1 xs)) c.in-Some.ensures.1)) c.drop_top.ensures refl c.args.world.now c.put_escaped-done.new.world c.put_escaped-done.result (λ place s. refl)
    (subst (λ (t : List ℕ). Doing g.W.World.reached g.W.World.replies (λ (u : Unit {0}). u) (λ place. put_text place (escaped t)) c.args.world.now c.put_escaped-done.new.world c.put_escaped-done.result) c.text_of.ensures c.put_escaped-done.ensures.does)
