use Rattle.preview_words.proofs.PictureLemmas.{latest, pictures_alone}
use Rattle.preview_words.proofs.laws.pictures.Goals as goal

pub returns-clause-latest : goal.returns-clause-latest
returns-clause-latest c = latest

pub returns-clause-alone : goal.returns-clause-alone
returns-clause-alone c = pictures_alone
