use Rattle.site_words.proofs.Lasting.{run_is_own, may_lasts, sure_lasts}
use Rattle.site_words.proofs.Legal.{may_fits, fits_may, may_follows}
use Rattle.site_words.proofs.laws.passes.Goals as goal

pub returns-clause-decides : goal.returns-clause-decides
returns-clause-decides c = run_is_own

pub returns-clause-may_lasts : goal.returns-clause-may_lasts
returns-clause-may_lasts c = may_lasts

pub returns-clause-sure_lasts : goal.returns-clause-sure_lasts
returns-clause-sure_lasts c = sure_lasts

pub returns-clause-may_fits : goal.returns-clause-may_fits
returns-clause-may_fits c = may_fits

pub returns-clause-fits_may : goal.returns-clause-fits_may
returns-clause-fits_may c = fits_may

pub returns-clause-done : goal.returns-clause-done
returns-clause-done c = may_follows
