-- A token is a text.
use Rattle.std.proofs.Common.{◌≡◌, ◌<◌, ℕ, List, true, map, All, arith}
use Rattle.std.specs.Prelude.{IsUtf8}
use Rattle.std.proofs.lemmas.Bool.Decides.{nat_tests}
use Rattle.std.specs.Char.{to_ascii_lowercase}
use Rattle.std.proofs.lemmas.List.Elements.{All-map, All-weaker}
use Rattle.std.proofs.lemmas.Str.{IsUtf8-from_ascii}
use Rattle.std.proofs.lemmas.Str.Ascii.{IsAscii-from_all, lowercase_ascii}
use Rattle.httparse.specs.Grammar.{is_token_byte, IsToken}

token_byte_is_ascii : (b : ℕ) → is_token_byte b ≡ true → b < 128
unfolding is_token_byte
token_byte_is_ascii b token = grind (arith, nat_tests)

-- the bytes of a token are ASCII
all_ascii : (bytes : List ℕ) → IsToken bytes → All (λ b. b < 128) bytes
all_ascii bytes token = All-weaker (λ b. is_token_byte b ≡ true) (λ b. b < 128) token_byte_is_ascii bytes token.1

pub token_is_text : (bytes : List ℕ) → IsToken bytes → IsUtf8 bytes
token_is_text bytes token = IsUtf8-from_ascii bytes (IsAscii-from_all bytes (all_ascii bytes token))

-- and so they are in lower case
pub lower_is_text : (bytes : List ℕ) → IsToken bytes → IsUtf8 (map to_ascii_lowercase bytes)
lower_is_text bytes token =
    IsUtf8-from_ascii (map to_ascii_lowercase bytes)
    (IsAscii-from_all (map to_ascii_lowercase bytes)
    (All-map (λ b. b < 128) to_ascii_lowercase bytes (All-weaker (λ b. b < 128) (λ b. to_ascii_lowercase b < 128) lowercase_ascii bytes (all_ascii bytes token))))
