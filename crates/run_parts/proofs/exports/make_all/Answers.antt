use Rattle.std.proofs.Common.{◌≡◌, ◌+◌, ◌++◌, [], ◌∷◌, Err, List, Ok, ap, arith, drop, map, refl, subst, sym, take, ◌∙◌}
use Rattle.std.proofs.lemmas.List.{map_more, take_all, drop_more, take-append-drop, map-append}
use Rattle.run_world.proofs.Exits.{err_as}
use Rattle.run_parts.proofs.ExportLemmas.{Making, made_failed, made_more, made_none}
use Rattle.run_parts.proofs.exports.make_all.Goals as goal
use Rattle.run_world.specs.Part.{Doing}
use Rattle.run_parts.specs.Exports.{Change, change_of}

pub loop-change-init : goal.loop-change-init
loop-change-init g c = record { covered = c.requires.covered; made = made_none c.args.world.now; frames = refl }

pub loop-change-preserved : goal.loop-change-preserved
loop-change-preserved g c =
    let more : map change_of (take (c.loop-change.change-index + 1) c.args.changes.now) ≡ map change_of (take c.loop-change.change-index c.args.changes.now) ++ change_of c.change-item.result ∷ [] =
    map_more change_of c.args.changes.now c.loop-change.change-index c.change-item.result (omega arith) ∙ ap (λ x. map change_of (take c.loop-change.change-index c.args.changes.now) ++ change_of x ∷ []) (sym c.change-item.is) in
    record {
      covered = c.make.ensures.covered;
      made = subst (λ (cs : List Change). Doing g.W.World.reached g.W.World.replies (λ (u : Unit {0}). u) (Making cs) c.args.world.now c.make.new.world (Ok tt)) (sym more)
          (made_more c.args.world.now c.loop-change.world c.make.new.world (map change_of (take c.loop-change.change-index c.args.changes.now)) (change_of c.change-item.result ∷ []) (Ok tt) c.loop-change.invariant.made
          c.in_ok-make.ensures.does);
      frames = c.make.ensures.frames ∙ c.loop-change.invariant.frames;
    }

pub returns-in_err-make-clause-does : goal.returns-in_err-make-clause-does
returns-in_err-make-clause-does g c =
    let rest = map change_of (drop (c.loop-change.change-index + 1) c.args.changes.now) in
    let all : map change_of (take c.loop-change.change-index c.args.changes.now) ++ change_of c.change-item.result ∷ rest ≡ map change_of c.args.changes.now =
    ap (λ xs. map change_of (take c.loop-change.change-index c.args.changes.now) ++ map change_of xs)
    (sym (drop_more c.args.changes.now c.loop-change.change-index c.change-item.result (omega arith)
    ∙ ap (λ x. x ∷ drop (c.loop-change.change-index + 1) c.args.changes.now) (sym c.change-item.is)))
    ∙ sym (map-append change_of (take c.loop-change.change-index c.args.changes.now) (drop c.loop-change.change-index c.args.changes.now))
    ∙ ap (map change_of) (take-append-drop c.loop-change.change-index c.args.changes.now) in
    err_as c.from_residual.result c.in_err-make.field-0.0 c.from_residual.ensures.1
    (subst (λ (cs : List Change). Doing g.W.World.reached g.W.World.replies (λ (u : Unit {0}). u) (Making cs) c.args.world.now c.make.new.world (Err c.in_err-make.field-0.0)) all
    (made_failed c.args.world.now c.loop-change.world c.make.new.world (map change_of (take c.loop-change.change-index c.args.changes.now)) (change_of c.change-item.result) rest c.in_err-make.field-0.0
    c.loop-change.invariant.made c.in_err-make.ensures.does))

pub returns-clause-does : goal.returns-clause-does
returns-clause-does g c =
    subst (λ (cs : List Change). Doing g.W.World.reached g.W.World.replies (λ (u : Unit {0}). u) (Making cs) c.args.world.now c.loop-change.world (Ok tt))
    (ap (map change_of) (take_all c.loop-change.change-index c.args.changes.now (omega arith))) c.loop-change.invariant.made
