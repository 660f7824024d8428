-- The bytes of a text, wherever they lie.
use Rattle.std.specs.Prelude.{ℕ, List, string_bytes}
use Rattle.pg_text.specs.declared.text.Kept.{Kept}
use Rattle.pg_text.specs.declared.text.Kept.TheVariants as kept

-- a short text is its bytes, a shared one those that it points to
abbrev pub kept_bytes : Kept → List ℕ
kept_bytes (kept.Short text) = text
kept_bytes (kept.Shared text) = string_bytes text.value
