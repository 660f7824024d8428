use Rattle.code_lowering.proofs.Whole.{program_fits, programs_mean}
use Rattle.code_lowering.proofs.laws.programs.Goals as goal

pub returns-clause-mean : goal.returns-clause-mean
returns-clause-mean c = programs_mean

pub returns-clause-fit : goal.returns-clause-fit
returns-clause-fit c = program_fits
