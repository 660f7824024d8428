-- How it is read whether a text could become the end of an element. No public contract speaks of it.
use Rattle.std.specs.Prelude.{if◌then◌else◌, ℕ, List, [], Option, Some, None, codes}
use Rattle.page_pieces.specs.Texts.{begins, after}

abbrev pub or_all : List ℕ → List ℕ → Option (List ℕ) → Option (List ℕ)
or_all mark text (Some rest) = Some rest
or_all mark text None = if begins text mark then Some [] else None

-- what is left of a text that this mark begins, or that begins the mark
unfoldable pub left_behind : List ℕ → List ℕ → Option (List ℕ)
left_behind mark text = or_all mark text (after mark text)

abbrev pub then_left : List ℕ → Option (List ℕ) → Option (List ℕ)
then_left mark None = None
then_left mark (Some rest) = left_behind mark rest

-- what is left of a text behind `</`, this prefix, a colon and this name, or behind as much of them as it has
abbrev pub left_behind_name : List ℕ → List ℕ → List ℕ → Option (List ℕ)
left_behind_name prefix name text = then_left name (then_left (codes ":") (then_left prefix (left_behind (codes "</") text)))
