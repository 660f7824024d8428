use Rattle.std.proofs.Common.{ap, subst, sym}
use Rattle.sink_buffer.proofs.Writing.{writes_both, writes_same}
use Rattle.packed_entries.specs.Refs.{op_in}
use Rattle.site_journal.specs.Journal.{of_op}
use Rattle.site_journal.specs.Reading.{IsOp}
use Rattle.site_journal.proofs.entries.put_op.Goals as goal

pub returns-in-Publish-clause-writes : goal.returns-in-Publish-clause-writes
returns-in-Publish-clause-writes g c = writes_same (ap (λ o. of_op (op_in o)) (sym c.in-Publish.is)) (writes_both c.put_option.ensures.writes (rw c.as_slice.ensures at c.put_list.ensures.writes))

pub returns-in-Publish-clause-can_be : goal.returns-in-Publish-clause-can_be
returns-in-Publish-clause-can_be g c = subst (λ o. IsOp (op_in o)) (sym c.in-Publish.is) (c.put_option.ensures.can_be, rw c.as_slice.ensures at c.put_list.ensures.can_be)

pub returns-in-Begin-clause-writes : goal.returns-in-Begin-clause-writes
returns-in-Begin-clause-writes g c = writes_same (ap (λ o. of_op (op_in o)) (sym c.in-Begin.is)) (writes_both c.put_text.ensures.writes c.put_number.ensures.writes)

pub returns-in-Begin-clause-can_be : goal.returns-in-Begin-clause-can_be
returns-in-Begin-clause-can_be g c = subst (λ o. IsOp (op_in o)) (sym c.in-Begin.is) (c.put_text.ensures.can_be, c.put_number.ensures.can_be)

pub returns-in-App-clause-writes : goal.returns-in-App-clause-writes
returns-in-App-clause-writes g c = writes_same (ap (λ o. of_op (op_in o)) (sym c.in-App.is)) (writes_both c.put_number-in-App.ensures.writes c.put_step.ensures.writes)

pub returns-in-App-clause-can_be : goal.returns-in-App-clause-can_be
returns-in-App-clause-can_be g c = subst (λ o. IsOp (op_in o)) (sym c.in-App.is) (c.put_number-in-App.ensures.can_be, c.put_step.ensures.can_be)

pub returns-in-Fetch-clause-writes : goal.returns-in-Fetch-clause-writes
returns-in-Fetch-clause-writes g c = writes_same (ap (λ o. of_op (op_in o)) (sym c.in-Fetch.is)) (writes_both c.put_number-in-Fetch.ensures.writes (rw c.as_str.ensures.text at c.put_text-in-Fetch.ensures.writes))

pub returns-in-Fetch-clause-can_be : goal.returns-in-Fetch-clause-can_be
returns-in-Fetch-clause-can_be g c = subst (λ o. IsOp (op_in o)) (sym c.in-Fetch.is) (c.put_number-in-Fetch.ensures.can_be, (rw c.as_str.ensures.text at c.put_text-in-Fetch.ensures.can_be, c.as_str.ensures.normal))

pub returns-in-Offer-clause-writes : goal.returns-in-Offer-clause-writes
returns-in-Offer-clause-writes g c = writes_same (ap (λ o. of_op (op_in o)) (sym c.in-Offer.is)) (writes_both c.put_number-in-Offer.ensures.writes (rw c.as_str-in-Offer.ensures.text at c.put_text-in-Offer.ensures.writes))

pub returns-in-Offer-clause-can_be : goal.returns-in-Offer-clause-can_be
returns-in-Offer-clause-can_be g c = subst (λ o. IsOp (op_in o)) (sym c.in-Offer.is) (c.put_number-in-Offer.ensures.can_be, (rw c.as_str-in-Offer.ensures.text at c.put_text-in-Offer.ensures.can_be, c.as_str-in-Offer.ensures.normal))

pub returns-in-End-clause-writes : goal.returns-in-End-clause-writes
returns-in-End-clause-writes g c = writes_same (ap (λ o. of_op (op_in o)) (sym c.in-End.is)) (writes_both c.put_number-in-End.ensures.writes c.put_attrs.ensures.writes)

pub returns-in-End-clause-can_be : goal.returns-in-End-clause-can_be
returns-in-End-clause-can_be g c = subst (λ o. IsOp (op_in o)) (sym c.in-End.is) (c.put_number-in-End.ensures.can_be, c.put_attrs.ensures.can_be)
