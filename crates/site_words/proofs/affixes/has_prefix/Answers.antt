use Rattle.std.proofs.lemmas.List.{take_min}
use Rattle.site_words.proofs.affixes.has_prefix.Goals as goal

pub returns : goal.returns
returns c = rw (c.eq.ensures, c.min.ensures, take_min)
