-- What a call gives, in the words of the table.
use Rattle.std.specs.Prelude.{ℕ, List, Option, Some, None}
use Rattle.run_parts.specs.declared.given.Given as machine_given
use Rattle.run_parts.specs.declared.given.Given.TheVariants as gives
use Rattle.page_table.specs.Seat.{Seat, Given, nothing, source_text, code_at, body_in, fragment_in}

abbrev pub given_of : machine_given.Given → Given
given_of gives.Nothing = nothing
given_of (gives.Source text) = source_text text.now
given_of (gives.Code at) = code_at at

-- the body that the call around gives, or its fragment of a name
abbrev pub given_by : Option (List ℕ) → Seat → Given
given_by None seat = body_in seat
given_by (Some name) seat = fragment_in name seat
