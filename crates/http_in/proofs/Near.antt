-- How far is read on behind the end of a head.
use Rattle.std.proofs.Common.{◌≡◌, ℕ, ◌+◌, ◌-◌, ◌<◌, ◌≤◌, List, [], ◌++◌, length, take, Some, None, refl, sym, ap, subst, ◌∙◌, arith, inl, inr}
use Rattle.std.proofs.lemmas.List.{take_all}
use Rattle.std.proofs.lemmas.Bool.{cases_lt}
use Rattle.std.proofs.Math.Seq.{take-append-add}
use Rattle.http_in.specs.declared.limits.TheConstants.{MAX_HEAD_BYTES, MAX_PIECE_BYTES}
use Rattle.http_in.specs.declared.scan.Scan.{Scan}
use Rattle.http_in.specs.HeadEnd.{head_len, front_of}
use Rattle.http_in.specs.Scan.{HasLooked}
use Rattle.http_in.proofs.HeadEnds.{front_full}
use Rattle.http_in.proofs.Scans.{looked_grows, head_behind}

-- the bytes are at most 4,096 more than some in which no head ends, and those are too few for a fault
pub record IsNear (bytes : List ℕ) : Type 0 where
  pub before : List ℕ
  pub piece : List ℕ
  pub is : bytes ≡ before ++ piece
  pub none : head_len before ≡ None
  pub small : length before < MAX_HEAD_BYTES
  pub little : length bytes ≤ length before + MAX_PIECE_BYTES

-- a few bytes
pub few_are_near : (bytes : List ℕ) → length bytes < MAX_PIECE_BYTES → IsNear bytes
few_are_near bytes few = record { before = []; piece = bytes; is = refl; none = refl; small = omega arith; little = omega arith }

-- the front of bytes in two pieces
front_behind : (before piece : List ℕ) → length before < MAX_HEAD_BYTES → front_of (before ++ piece) ≡ before ++ take (MAX_HEAD_BYTES - length before) piece
unfolding front_of
front_behind before piece small =
    let room : MAX_HEAD_BYTES ≡ length before + (MAX_HEAD_BYTES - length before) = omega arith in
    ap (λ k. take k (before ++ piece)) room ∙ take-append-add before piece (MAX_HEAD_BYTES - length before)

-- few bytes are all in the front
pub all_in_front : (bytes : List ℕ) → length bytes < MAX_HEAD_BYTES → front_of bytes ≡ bytes
unfolding front_of
all_in_front bytes short = take_all MAX_HEAD_BYTES bytes (omega arith)

-- behind a head that was found so stand fewer than 4,096 bytes
pub near_found : (bytes : List ℕ) (len : ℕ) → IsNear bytes → head_len (front_of bytes) ≡ Some len → length bytes < len + MAX_PIECE_BYTES
near_found bytes len near found =
    let behind = head_behind near.before (take (MAX_HEAD_BYTES - length near.before) near.piece) len near.none
    (ap head_len (sym (front_behind near.before near.piece near.small)) ∙ ap (λ b. head_len (front_of b)) (sym near.is) ∙ found) in
    omega (arith, behind, near.little)

-- a further piece of at most 4,096 bytes
pub more_are_near : (bytes piece new : List ℕ) → new ≡ bytes ++ piece → length new ≤ length bytes + MAX_PIECE_BYTES → length bytes < MAX_HEAD_BYTES → head_len (front_of bytes) ≡ None → IsNear new
more_are_near bytes piece new is little small none = record {
  before = bytes;
  piece = piece;
  is = is;
  none = ap head_len (sym (all_in_front bytes small)) ∙ none;
  small = small;
  little = little;
}

-- what was looked through was so where a further piece stands behind it
pub front_looked : (scan : Scan) (bytes piece new : List ℕ) → new ≡ bytes ++ piece → HasLooked scan (front_of bytes) → HasLooked scan (front_of new)
front_looked scan bytes piece new is has =
    elim (cases_lt (length bytes) MAX_HEAD_BYTES) [
      | inl small ↦
          let grown = looked_grows scan bytes (take (MAX_HEAD_BYTES - length bytes) piece) (subst (HasLooked scan) (all_in_front bytes small) has) in
          subst (HasLooked scan) (sym (ap front_of is ∙ front_behind bytes piece small)) grown
      | inr long ↦ subst (HasLooked scan) (sym (ap front_of is ∙ front_full bytes piece long)) has
    ]
