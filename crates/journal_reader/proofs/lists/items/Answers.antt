use Rattle.std.proofs.Common.{[], ◌∷◌, ap, arith, length}
use Rattle.std.proofs.lemmas.List.{length-append}
use Rattle.journal_reader.proofs.ItemLemmas.{next_kept, next_memory, next_stops}
use Rattle.journal_reader.proofs.Parts.{passed}
use Rattle.journal_reader.proofs.lists.items.Goals as goal

pub returns-in_err-item : goal.returns-in_err-item
returns-in_err-item g c =
    passed c.from_residual.result c.from_residual.ensures.1
    (next_stops g.T.Part.is g.T.Part.text (length c.fill.items) c.args.count (omega arith) c.fill.invariant.read c.in_err-item.ensures)

pub returns-in_err-push : goal.returns-in_err-push
returns-in_err-push g c =
    passed c.from_residual-in_err-push.result c.from_residual-in_err-push.ensures.1
    (next_memory g.T.Part.is g.T.Part.text (length c.fill.items) c.args.count c.fill.invariant.read c.in_ok-item.ensures)

pub fill-preserved : goal.fill-preserved
fill-preserved g c = record {
  read = next_kept g.T.Part.is g.T.Part.text _ c.in_ok-push.ensures.ok c.fill.invariant.read c.in_ok-item.ensures;
  within = omega (arith, ap length c.in_ok-push.ensures.ok, length-append c.fill.items (c.in_ok-item.item ∷ []));
}
