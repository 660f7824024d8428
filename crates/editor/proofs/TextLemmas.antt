-- Bytes that are texts or not.
use Rattle.std.proofs.Common.{◌≡◌, ℕ, Bool, true, false, List, refl}
use Rattle.std.specs.Prelude.{IsUtf8}
use Rattle.std.specs.Str.{is_utf8}
use Rattle.std.proofs.lemmas.Str.{IsUtf8-from_is_utf8}

-- bytes that are no text
pub no_text : (bytes : List ℕ) → (IsUtf8 bytes → ⊥) → is_utf8 bytes ≡ false
no_text bytes none = go (is_utf8 bytes) refl
  where
    go : (test : Bool) → is_utf8 bytes ≡ test → is_utf8 bytes ≡ false
    go true is = absurd (none (IsUtf8-from_is_utf8 bytes is))
    go false is = is
