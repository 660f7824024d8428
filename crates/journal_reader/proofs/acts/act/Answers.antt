use Rattle.std.proofs.Common.{arith}
use Rattle.journal_reader.proofs.EntryLemmas.{act_of, no_kind, roll_read}
use Rattle.journal_reader.proofs.acts.act.Goals as goal

pub returns-in-1 : goal.returns-in-1
returns-in-1 g c = act_of c.args.kind 1 c.publish.result (cc) c.publish.ensures

pub returns-in-2 : goal.returns-in-2
returns-in-2 g c = act_of c.args.kind 2 c.begin.result (cc) c.begin.ensures

pub returns-in-3 : goal.returns-in-3
returns-in-3 g c = act_of c.args.kind 3 c.app.result (cc) c.app.ensures

pub returns-in-4 : goal.returns-in-4
returns-in-4 g c = act_of c.args.kind 4 c.fresh.result (cc) c.fresh.ensures

pub returns-in-5 : goal.returns-in-5
returns-in-5 g c = act_of c.args.kind 5 c.fetch.result (cc) c.fetch.ensures

pub returns-in-6 : goal.returns-in-6
returns-in-6 g c = act_of c.args.kind 6 c.offer.result (cc) c.offer.ensures

pub returns-in-7 : goal.returns-in-7
returns-in-7 g c = act_of c.args.kind 7 c.end.result (cc) c.end.ensures

pub returns-in-8 : goal.returns-in-8
returns-in-8 g c = act_of c.args.kind 8 c.abandon.result (cc) c.abandon.ensures

pub returns-in-9 : goal.returns-in-9
returns-in-9 g c = act_of c.args.kind 9 c.snapshot.result (cc) c.snapshot.ensures

pub returns-in-10 : goal.returns-in-10
returns-in-10 g c = act_of c.args.kind 10 _ (cc) (roll_read _ _ _)

pub returns-in_default : goal.returns-in_default
returns-in_default g c = no_kind _ _ _ c.args.kind (λ n some most is. omega arith)
