use Rattle.std.proofs.Common.{sym, subst}
use Rattle.source_tree.specs.Limits.{IsWithinLimits}
use Rattle.pages_check.proofs.PageLemmas.{alone_within, fault_alone, some_alone, steps_alone}
use Rattle.pages_check.proofs.page.alone_fault.Goals as goal

pub unit_fault-requires-clause-limits : goal.unit_fault-requires-clause-limits
unit_fault-requires-clause-limits g c = subst IsWithinLimits (sym c.in_ok-tree.ensures) (alone_within c.args.path.now c.args.text.now c.requires)

pub unit_fault-requires-clause-stands : goal.unit_fault-requires-clause-stands
unit_fault-requires-clause-stands g c = some_alone c.args.path.now c.args.text.now c.in_ok-tree.tree c.in_ok-tree.ensures

pub returns-clause-fault : goal.returns-clause-fault
returns-clause-fault g c = fault_alone c.args.path.now c.args.text.now c.in_ok-tree.tree c.in_ok-fault.fault c.in_ok-tree.ensures c.in_ok-fault.ensures.fault

pub returns-clause-steps : goal.returns-clause-steps
returns-clause-steps g c = steps_alone c.args.path.now c.args.text.now c.in_ok-tree.tree c.args.steps.now c.unit_fault.new.steps c.in_ok-tree.ensures c.in_ok-fault.ensures.steps
