use Rattle.site_words.proofs.Promise.{within}
use Rattle.site_words.proofs.Good.{sessions_good}
use Rattle.site_words.proofs.Apart.{apart}
use Rattle.site_words.proofs.Gifts.{never_busy}
use Rattle.site_words.proofs.laws.requests.Goals as goal

pub returns-clause-promises : goal.returns-clause-promises
returns-clause-promises c = within

pub returns-clause-sessions : goal.returns-clause-sessions
returns-clause-sessions c = sessions_good

pub returns-clause-apart : goal.returns-clause-apart
returns-clause-apart c = apart

pub returns-clause-alone : goal.returns-clause-alone
returns-clause-alone c = never_busy
