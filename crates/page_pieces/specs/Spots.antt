-- Places: a line ends at a line feed, and a column is one scalar value.
use Rattle.std.specs.Prelude.{◌∷◌, ◌+◌, ◌==◌, ◌&&◌, if◌then◌else◌, ℕ, Bool, List, [], nat_lt, nat_le}
use Rattle.pg_text.specs.declared.place.Place.{Place}
use Rattle.page_pieces.specs.declared.spot.Spot.{Spot}

-- the beginning of a file
abbrev pub start : Spot
start = record { byte = 0; line = 1; column = 1 }

-- the bytes behind the first of a scalar value
abbrev pub is_continuation : ℕ → Bool
is_continuation b = nat_le 128 b && nat_lt b 192

-- the place behind a byte
abbrev pub next_spot : Spot → ℕ → Spot
next_spot spot b =
    if b == 10 then record { byte = spot.byte + 1; line = spot.line + 1; column = 1 }
    else if is_continuation b then record { byte = spot.byte + 1; line = spot.line; column = spot.column }
    else record { byte = spot.byte + 1; line = spot.line; column = spot.column + 1 }

-- the place behind a text that begins at this place
abbrev pub spot_after : Spot → List ℕ → Spot
spot_after spot [] = spot
spot_after spot (b ∷ bytes) = spot_after (next_spot spot b) bytes

-- the place in that file
abbrev pub place_in : List ℕ → Spot → Place
place_in file spot = record { file = file; byte = spot.byte; line = spot.line; column = spot.column }
