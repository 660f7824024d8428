-- What doing the entries of a journal again comes to.
use Rattle.std.specs.Prelude.{◌≡◌, List}
use Rattle.journal_entries.specs.declared.again.Again.{Again}
use Rattle.journal_entries.specs.declared.again.Again.TheVariants.{Legal, Fails}
use Rattle.right_journal.specs.Right.{FailsAt, unrolled}
use Rattle.site_words.specs.Law as Law
use Rattle.site_words.specs.Trees.{Needs}
use Rattle.site_words.specs.declared.words.Entry.{Entry}
use Rattle.site_words.specs.declared.words.Opening.{Opening}

-- the history is legal, and the site has its entries but the Roll; or the entry at this place is the first that isn't legal
abbrev pub IsAgain : Needs → Opening → List Entry → List Entry → Again → Type 0
IsAgain needs x history seen Legal = Law.Legal needs x history × (seen ≡ unrolled history)
IsAgain needs x history seen (Fails place) = FailsAt needs x history place
