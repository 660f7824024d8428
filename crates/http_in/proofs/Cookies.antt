-- The id of a session is a short text.
use Rattle.std.proofs.Common.{◌≡◌, ℕ, ◌<◌, ◌≤◌, Bool, true, false, cond, ◌&&◌, ◌||◌, List, [], length, map, Option, Some, None, refl, arith}
use Rattle.std.specs.Prelude.{IsUtf8, ◌==◌, codes}
use Rattle.std.specs.Int.{is_in_range}
use Rattle.std.proofs.lemmas.Bool.Decides.{nat_tests}
use Rattle.std.proofs.lemmas.List.Sums.{AllPass-from_list_all}
use Rattle.std.proofs.lemmas.List.Elements.{All-weaker}
use Rattle.std.proofs.lemmas.Str.{IsUtf8-from_ascii}
use Rattle.std.proofs.lemmas.Str.Ascii.{IsAscii-from_all}
use Rattle.http_in.specs.declared.fields.Field.{Field}
use Rattle.http_in.specs.Cookie.{can_be_id, first_some, id_or_none, session_in, session_of}
use Rattle.http_in.specs.Fields.{values_of}

-- both parts of a test that holds
both : (a b : Bool) → (a && b) ≡ true → (a ≡ true) × (b ≡ true)
both true b holds = (refl, holds)
both false b holds = absurd (cc)

digit_is_ascii : (b : ℕ) → (is_in_range 48 57 b || is_in_range 97 102 b) ≡ true → b < 128
digit_is_ascii b digit = grind (arith, nat_tests)

-- an id is a text
pub id_is_text : (value : List ℕ) → can_be_id value ≡ true → IsUtf8 value
id_is_text value id =
    let digits = (both (length value == 48) _ id).1 in
    IsUtf8-from_ascii value (IsAscii-from_all value (All-weaker (λ b. (is_in_range 48 57 b || is_in_range 97 102 b) ≡ true) (λ b. b < 128) digit_is_ascii value (AllPass-from_list_all (λ b. is_in_range 48 57 b || is_in_range 97 102 b) value digits)))

length_is : (n : ℕ) → (n == 48) ≡ true → n ≤ 48
length_is n same = grind (arith, nat_tests)

short : (value : Option (List ℕ)) → length (id_or_none value) ≤ 48
short None = omega arith
short (Some value) = go (can_be_id value) refl
  where
    go : (test : Bool) → can_be_id value ≡ test → length (cond test value []) ≤ 48
    go true is = length_is (length value) (both (length value == 48) _ is).0
    go false is = omega arith

-- the id has at most 48 bytes
pub session_is_short : (fields : List Field) → length (session_of fields) ≤ 48
session_is_short fields = short (first_some (map session_in (values_of (codes "cookie") fields)))
