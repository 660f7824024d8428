use Rattle.std.proofs.Common.{rules}
use Rattle.unit_judges.specs.Made.{here_made}
use Rattle.unit_judges.proofs.element.element_faults.Goals as goal

pub returns : goal.returns
returns c =
    c.and.ensures.of _ _ c.one_if-deep.ensures
    (c.faults_by_body-by_kind.ensures (here_made c.args.beginning.here)
    (search (rules, c.in_ok-standing.ensures, c.deref.ensures.value))
    (search (rules, c.in_ok-push_inner.ensures, c.deref-2.ensures.value, c.deref-4.ensures.value))
    (search (rules, c.in_ok-hosts.ensures, c.deref-3.ensures.value))
    (search rules))
