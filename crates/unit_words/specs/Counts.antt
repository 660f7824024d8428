-- How many files and bytes of a unit were counted.
use Rattle.std.specs.Prelude.{ℕ, ◌+◌, ◌&&◌, Bool, true, false, List, [], ◌∷◌, nat_le, if◌then◌else◌}
use Rattle.pg_text.specs.declared.translation_fault.TranslationFault.{TranslationFault}
use Rattle.pg_text.specs.declared.translation_fault.TranslationFault.TheVariants as fault
use Rattle.unit_source.specs.Splice.{most_nested}
use Rattle.unit_source.specs.Volume.{most_bytes, most_files}
use Rattle.unit_words.specs.declared.counts.Counted.{Counted}
use Rattle.unit_words.specs.declared.counts.Counted.TheVariants.{Within, Passes, Over}
use Rattle.unit_words.specs.declared.counts.Counts.{Counts}

-- a page of so many bytes alone
abbrev pub page_alone : ℕ → Counts
page_alone bytes = record { files = 1; bytes = bytes; over = false }

-- a file of so many bytes more is within the limits
abbrev pub fits : ℕ → Counts → Bool
fits bytes counts = nat_le (counts.files + 1) most_files && nat_le (counts.bytes + bytes) most_bytes

-- what counting a file of so many bytes comes to
abbrev pub counted : ℕ → Counts → Counted
counted bytes counts = if counts.over then Over else (if fits bytes counts then Within else Passes)

-- what is counted then
abbrev pub counts_by : Counted → ℕ → Counts → Counts
counts_by Within bytes counts = record { files = counts.files + 1; bytes = counts.bytes + bytes; over = counts.over }
counts_by Passes bytes counts = record counts { over = true }
counts_by Over bytes counts = counts

-- what is counted behind a file of so many bytes
abbrev pub counts_behind : ℕ → Counts → Counts
counts_behind bytes counts = counts_by (counted bytes counts) bytes counts

-- what is counted behind an element that stands in so many others: where they are too many, a limit is passed
abbrev pub counts_within : ℕ → Counts → Counts
counts_within deep counts = if nat_le most_nested deep then record counts { over = true } else counts

-- passing a limit is TooLarge
abbrev pub count_faults : Counted → List TranslationFault
count_faults Passes = fault.TooLarge ∷ []
count_faults _ = []

-- a file within the limits is read
abbrev pub is_counted : Counted → Bool
is_counted Within = true
is_counted _ = false
