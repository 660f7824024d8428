-- The bytes of a media type, wherever they lie.
use Rattle.std.specs.Prelude.{ℕ, List}
use Rattle.http_out.specs.declared.content_type.Kept.{Kept}
use Rattle.http_out.specs.declared.content_type.Kept.TheVariants as kept

abbrev pub type_bytes : Kept → List ℕ
type_bytes (kept.Known name) = name.now
type_bytes (kept.Named name) = name
