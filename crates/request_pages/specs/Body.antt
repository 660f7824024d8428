-- The bytes of a body, wherever they lie.
use Rattle.std.specs.Prelude.{ℕ, List}
use Rattle.request_pages.specs.declared.body.Kept.{Kept}
use Rattle.request_pages.specs.declared.body.Kept.TheVariants as kept

-- what was made is its bytes, a file those of its text
abbrev pub body_bytes : Kept → List ℕ
body_bytes (kept.Made bytes) = bytes
body_bytes (kept.File text) = text
