use Rattle.std.proofs.Common.{[], ◌∷◌, ap, arith, length}
use Rattle.std.proofs.lemmas.List.{length-append}
use Rattle.journal_reader.proofs.ItemLemmas.{next_kept, next_memory, next_stops}
use Rattle.journal_reader.proofs.Parts.{passed}
use Rattle.site_journal.specs.Journal.{of_edit}
use Rattle.site_journal.specs.Reading.{IsEdit}
use Rattle.journal_reader.proofs.edits.some_edits.Goals as goal

pub returns-in_err-edit : goal.returns-in_err-edit
returns-in_err-edit g c =
    passed c.from_residual.result c.from_residual.ensures.1
    (next_stops IsEdit of_edit (length c.fill.edits) c.args.count (omega arith) c.fill.invariant.read c.in_err-edit.ensures)

pub returns-in_err-push : goal.returns-in_err-push
returns-in_err-push g c =
    passed c.from_residual-in_err-push.result c.from_residual-in_err-push.ensures.1
    (next_memory IsEdit of_edit (length c.fill.edits) c.args.count c.fill.invariant.read c.in_ok-edit.ensures)

pub fill-preserved : goal.fill-preserved
fill-preserved g c = record {
  read = next_kept IsEdit of_edit _ c.in_ok-push.ensures.ok c.fill.invariant.read c.in_ok-edit.ensures;
  within = omega (arith, ap length c.in_ok-push.ensures.ok, length-append c.fill.edits (c.in_ok-edit.edit ∷ []));
}
