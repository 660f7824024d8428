use Rattle.page_meaning_tests.proofs.CallsCases.{nested_calls, dynamic_attributes, alias, absent_at_begin, forward_in_tag}
use Rattle.page_meaning_tests.proofs.calls.Goals as goal

pub returns-clause-nested_calls : goal.returns-clause-nested_calls
returns-clause-nested_calls c = nested_calls

pub returns-clause-dynamic_attributes : goal.returns-clause-dynamic_attributes
returns-clause-dynamic_attributes c = dynamic_attributes

pub returns-clause-alias : goal.returns-clause-alias
returns-clause-alias c = alias

pub returns-clause-absent_at_begin : goal.returns-clause-absent_at_begin
returns-clause-absent_at_begin c = absent_at_begin

pub returns-clause-forward_in_tag : goal.returns-clause-forward_in_tag
returns-clause-forward_in_tag c = forward_in_tag
