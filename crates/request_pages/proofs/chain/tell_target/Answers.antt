use Rattle.request_pages.proofs.TargetLemmas.{if_ok, target_absent}
use Rattle.request_pages.proofs.chain.tell_target.Goals as goal
use Rattle.request_pages.specs.Target.{IsTargetReply}

pub returns-in-Absent : goal.returns-in-Absent
returns-in-Absent c = record {
  told = λ tree is.
      if_ok _ (IsTargetReply tree c.args.status c.args.path.now) c.not_found.result
      (λ r e. target_absent tree c.args.status c.args.path.now r (rw c.in-Absent.is at is) e) c.not_found.ensures;
}
