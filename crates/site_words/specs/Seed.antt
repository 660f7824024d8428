-- The seed of a site in writing.
use Rattle.std.specs.Prelude.{ℕ, List, Option}
use Rattle.std.specs.Result.{result_ok}
use Rattle.hex.specs.Hex.{decode_sized}

-- the seed of 32 bytes that a text is, of hexadecimal digits of either case
abbrev pub seed_of : List ℕ → Option (List ℕ)
seed_of text = result_ok (decode_sized text 32)
