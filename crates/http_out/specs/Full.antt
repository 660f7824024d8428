-- The line of a plain answer that tells a full journal.
use Rattle.std.specs.Prelude.{ℕ, List, ◌++◌, codes, decimal}

-- the line: what the journal weighs, and what is promised of the room that it has left
abbrev pub full_line : (weight promised : ℕ) → List ℕ
full_line weight promised = codes "JournalFull " ++ decimal weight ++ codes " " ++ decimal promised
