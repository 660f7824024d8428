use Rattle.std.proofs.Common.{◌≡◌, ℕ, Bool, true, false, List, refl}
use Rattle.std.specs.Prelude.{IsUtf8}
use Rattle.std.specs.Str.{is_utf8}
use Rattle.std.proofs.lemmas.Str.{IsUtf8-from_is_utf8}
use Rattle.http_in.proofs.target.path_in.Goals as goal

-- bytes that are no text
no_text : (bytes : List ℕ) → (IsUtf8 bytes → ⊥) → is_utf8 bytes ≡ false
no_text bytes none = go (is_utf8 bytes) refl
  where
    go : (test : Bool) → is_utf8 bytes ≡ test → is_utf8 bytes ≡ false
    go true is = absurd (none (IsUtf8-from_is_utf8 bytes is))
    go false is = is

pub returns-in-Err : goal.returns-in-Err
returns-in-Err c = rw (no_text c.args.bytes.now c.in-Err.ensures.cases.0) refl
