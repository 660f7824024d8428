-- What the reading holds, in the words of the definitions. No public contract speaks of it.
use Rattle.std.specs.Prelude.{ℕ, List, Result, Ok, Err}
use Rattle.page_pieces.specs.declared.head.Misread.{Misread}
use Rattle.page_pieces.specs.declared.head.Misread.TheVariants.{CutOff, Malformed}
use Rattle.page_pieces.specs.declared.attribute_reader.Spelled.{Spelled}
use Rattle.page_pieces.specs.declared.attribute_reader.Quoted as held
use Rattle.page_pieces.specs.Tags.{WrittenAttribute}
use Rattle.page_pieces.specs.ReadHead.{Quoted}

-- what was returned, seen by this view
abbrev pub seen : {X Y E : Type 0} → (X → Y) → Result X E → Result Y E
seen view (Ok x) = Ok (view x)
seen view (Err e) = Err e

-- an attribute, and what follows it
abbrev pub written : Spelled → WrittenAttribute × List ℕ
written a = (record { gap = a.gap.now; name = a.name.now; before_sign = a.before_sign.now; after_sign = a.after_sign.now; quote = a.quote; value = a.value.now }, a.rest.now)

-- a value between quotes
abbrev pub quoted_as : held.Quoted → Quoted
quoted_as found = record { quote = found.quote; value = found.value.now; rest = found.rest.now }

-- what is read at a place where no head ends, unless the text is at its end there
abbrev pub unless_cut_off : {A : Type 0} → Misread → Result A Misread → Result A Misread
unless_cut_off CutOff read = Err CutOff
unless_cut_off Malformed read = read
