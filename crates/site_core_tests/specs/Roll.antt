-- The operation that no pass asks for.
use Rattle.std.specs.Prelude.{Bool, true, false}
use Rattle.site_words.specs.declared.words.Op.{Op}
use Rattle.site_words.specs.declared.words.Op.TheVariants as op

-- it is a Roll
abbrev pub is_roll : Op → Bool
is_roll op.Roll = true
is_roll other = false
