use Rattle.page_meaning_tests.proofs.BuffersCases.{exactly_full, one_over, committed, broken, full_by_two, over_by_two, overflow, unbuffered}
use Rattle.page_meaning_tests.proofs.buffers.Goals as goal

pub returns-clause-exactly_full : goal.returns-clause-exactly_full
returns-clause-exactly_full c = exactly_full

pub returns-clause-one_over : goal.returns-clause-one_over
returns-clause-one_over c = one_over

pub returns-clause-committed : goal.returns-clause-committed
returns-clause-committed c = committed

pub returns-clause-broken : goal.returns-clause-broken
returns-clause-broken c = broken

pub returns-clause-full_by_two : goal.returns-clause-full_by_two
returns-clause-full_by_two c = full_by_two

pub returns-clause-over_by_two : goal.returns-clause-over_by_two
returns-clause-over_by_two c = over_by_two

pub returns-clause-overflow : goal.returns-clause-overflow
returns-clause-overflow c = overflow

pub returns-clause-unbuffered : goal.returns-clause-unbuffered
returns-clause-unbuffered c = unbuffered
