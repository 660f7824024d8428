use Rattle.page_meaning_tests.proofs.IncludesCases.{forward, include, include_fault, include_redirect, include_forward, forward_loop}
use Rattle.page_meaning_tests.proofs.includes.Goals as goal

pub returns-clause-forward : goal.returns-clause-forward
returns-clause-forward c = forward

pub returns-clause-include : goal.returns-clause-include
returns-clause-include c = include

pub returns-clause-include_fault : goal.returns-clause-include_fault
returns-clause-include_fault c = include_fault

pub returns-clause-include_redirect : goal.returns-clause-include_redirect
returns-clause-include_redirect c = include_redirect

pub returns-clause-include_forward : goal.returns-clause-include_forward
returns-clause-include_forward c = include_forward

pub returns-clause-forward_loop : goal.returns-clause-forward_loop
returns-clause-forward_loop c = forward_loop
