-- Places of the history that are kept free.
use Rattle.std.specs.Prelude.{ℕ, ◌+◌, Bool, true, false, List, [], ◌∷◌, Option, Some, None, if◌then◌else◌}
use Rattle.site_words.specs.declared.words.Op.{Op}
use Rattle.site_words.specs.declared.words.Op.TheVariants as op
use Rattle.site_words.specs.Runs.{UnderWay}

-- how many requests are under way
abbrev pub open_runs : List (Option UnderWay) → ℕ
open_runs [] = 0
open_runs (None ∷ runs) = open_runs runs
open_runs (Some under ∷ runs) = open_runs runs + 1

-- the last operation of a request
abbrev pub is_last : Op → Bool
is_last (op.End request attrs) = true
is_last (op.Abandon request) = true
is_last other = false

-- the places that an operation takes: its own and, for a request that begins, that of its last entry; a last one has its place
abbrev pub growth : Op → ℕ
growth o = if is_last o then 0 else 2
