-- The first place of an empty line is where the search for it says.
use Rattle.std.proofs.Common.{◌≡◌, ◌≢◌, ℕ, ◌+◌, ◌<◌, ◌≤◌, Bool, true, false, nat_eq, List, [], ◌∷◌, length, take, drop, Option, Some, None, suc, zero, refl, sym, ap, arith, length-drop}
use Rattle.std.specs.List.{starts_with}
use Rattle.std.specs.Option.{option_map}
use Rattle.std.proofs.lemmas.List.{length-take}
use Rattle.std.proofs.lemmas.Slice.Eq.{bytes_eq-Decides}
use Rattle.memchr.specs.Find.{FindsNeedle}
use Rattle.memchr.proofs.lemmas.MatchLemmas.{OccursAt-part, OccursAt-from_part}
use Rattle.http_in.specs.HeadEnd.{empty_line, through_empty_line}

-- four bytes that aren't an empty line
no_line : (bytes : List ℕ) → take 4 bytes ≢ empty_line → starts_with nat_eq bytes empty_line ≡ false
no_line bytes other = go (starts_with nat_eq bytes empty_line) refl
  where
    go : (here : Bool) → starts_with nat_eq bytes empty_line ≡ here → here ≡ false
    go true is = absurd (other (sym ((bytes_eq-Decides empty_line (take 4 bytes)).0 is)))
    go false is = refl

-- four bytes that are one
a_line : (bytes : List ℕ) → take 4 bytes ≡ empty_line → starts_with nat_eq bytes empty_line ≡ true
a_line bytes is = (bytes_eq-Decides empty_line (take 4 bytes)).1 (sym is)

-- an empty line at a place stands before the end
line_fits : (bytes : List ℕ) (at : ℕ) → take 4 (drop at bytes) ≡ empty_line → at + 4 ≤ length bytes
line_fits bytes at is = omega (arith, ap length is, length-take 4 (drop at bytes), length-drop at bytes)

-- the first empty line is at this place
first_at : (bytes : List ℕ) (at : ℕ) → take 4 (drop at bytes) ≡ empty_line → ((k : ℕ) → k < at → take 4 (drop k bytes) ≢ empty_line) → through_empty_line bytes ≡ Some (at + 4)
first_at [] at is before = absurd (omega (arith, line_fits [] at is))
first_at (b ∷ bytes) zero is before = rw (a_line (b ∷ bytes) is) refl
first_at (b ∷ bytes) (suc at) is before =
    rw (no_line (b ∷ bytes) (before 0 (omega arith)), first_at bytes at is (λ k less. before (suc k) (omega arith))) (ap Some (omega arith))

-- there is none
none_at : (bytes : List ℕ) → ((k : ℕ) → take 4 (drop k bytes) ≢ empty_line) → through_empty_line bytes ≡ None
none_at [] nowhere = refl
none_at (b ∷ bytes) nowhere = rw (no_line (b ∷ bytes) (nowhere 0), none_at bytes (λ k. nowhere (suc k))) refl

-- what a search for an empty line answers is where the first one begins
pub found_line : (bytes : List ℕ) (found : Option ℕ) → FindsNeedle bytes empty_line 0 found → through_empty_line bytes ≡ option_map (λ at. at + 4) found
found_line bytes None nowhere =
    none_at bytes (λ k is. nowhere k (omega arith) (omega (arith, line_fits bytes k is)) (OccursAt-from_part bytes empty_line k (line_fits bytes k is) is))
found_line bytes (Some at) found =
    first_at bytes at (OccursAt-part bytes empty_line at found.1)
    (λ k less is. found.0.before k (omega arith) less (OccursAt-from_part bytes empty_line k (line_fits bytes k is) is))
