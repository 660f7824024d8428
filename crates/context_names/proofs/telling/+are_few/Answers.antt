use Rattle.std.proofs.Common.{sym, arith}
use Rattle.std.proofs.lemmas.Bool.{lt-leb}
use Rattle.std.proofs.lemmas.List.Splits.{length-slice_split}
use Rattle.context_names.specs.Names.{is_comma}
use Rattle.context_names.proofs.telling.+are_few.Goals as goal

pub returns-then-most-eq0 : goal.returns-then-most-eq0
returns-then-most-eq0 t c = sym (lt-leb _ _ (omega (arith, length-slice_split is_comma c.args.list.now, c.if-most-eq0.true)))
