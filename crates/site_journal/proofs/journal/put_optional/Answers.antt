use Rattle.std.proofs.Common.{ap, subst, sym}
use Rattle.sink_buffer.proofs.Writing.{writes_both, writes_same}
use Rattle.std.specs.Option.{option_copied}
use Rattle.site_journal.specs.Codes.{IsOption, of_option}
use Rattle.site_journal.specs.Journal.{of_talk}
use Rattle.site_journal.specs.Reading.{IsTalk}
use Rattle.site_journal.proofs.journal.put_optional.Goals as goal

pub returns-in-Some-clause-writes : goal.returns-in-Some-clause-writes
returns-in-Some-clause-writes g c = writes_same (ap (λ talk. of_option of_talk (option_copied talk)) (sym c.in-Some.is)) (writes_both c.put_byte-in-Some.ensures c.put_talk.ensures.writes)

pub returns-in-Some-clause-can_be : goal.returns-in-Some-clause-can_be
returns-in-Some-clause-can_be g c = subst (λ talk. IsOption IsTalk (option_copied talk)) (sym c.in-Some.is) c.put_talk.ensures.can_be
