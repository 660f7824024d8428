use Rattle.code_lowering_tests.proofs.Cases.{loop_with_test}
use Rattle.code_lowering_tests.proofs.codes.Goals as goal

pub returns : goal.returns
returns c = loop_with_test
