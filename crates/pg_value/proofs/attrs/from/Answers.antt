use Rattle.std.proofs.Common.{arith}
use Rattle.std.proofs.lemmas.List.{length-map}
use Rattle.pg_value.specs.Value.{entry_of}
use Rattle.pg_value.proofs.BlockLoops.{seen_from, seen_more}
use Rattle.pg_value.proofs.attrs.from.Goals as goal

pub returns-clause-same : goal.returns-clause-same
returns-clause-same c = seen_from c.args.entries.now _ c.args.place c.split_at.ensures.back

pub returns-clause-some : goal.returns-clause-some
returns-clause-some c = λ within. seen_more c.args.entries.now _ c.args.place (omega (arith, within, length-map c.args.entries.now entry_of)) c.split_at.ensures.back
