-- The name at the front of a text, and the name of an element there.
use Rattle.std.proofs.Common.{◌≡◌, ℕ, ◌+◌, Bool, true, false, cond, eqb, Some, None, List, [], ◌∷◌, ◌++◌, drop, take, refl, sym, ap, ◌∙◌, subst, arith, one-add}
use Rattle.std.specs.List.{prefix_len, list_all}
use Rattle.std.proofs.lemmas.Bool.{cond-true, cond-false, and_parts, and_from}
use Rattle.std.proofs.lemmas.Bool.Decides.{nat_tests}
use Rattle.page_pieces.specs.Names.{IsName, is_name_start, is_name_byte, is_white}
use Rattle.page_pieces.specs.Marks.{name_at}
use Rattle.page_pieces.proofs.AtFront.Longest.{Stops, front_is, front_all, front_stops, front_cut}

-- the name that begins with this byte, and what follows it
abbrev pub name_with : ℕ → List ℕ → List ℕ × List ℕ
name_with b bytes = (b ∷ take (prefix_len is_name_byte bytes) bytes, drop (prefix_len is_name_byte bytes) bytes)

some_bytes : (n : ℕ) → eqb (1 + n) 0 ≡ false
some_bytes n = grind (arith, nat_tests)

-- a name at the front of a text, by its first byte
pub name_by : (b : ℕ) (bytes : List ℕ) → name_at (b ∷ bytes) ≡ cond (is_name_start b) (Some (name_with b bytes)) None
name_by b bytes = go (is_name_start b)
  where
    go : (starts : Bool) → cond (eqb (cond starts (1 + prefix_len is_name_byte bytes) 0) 0) None (Some (take (cond starts (1 + prefix_len is_name_byte bytes) 0) (b ∷ bytes), drop (cond starts (1 + prefix_len is_name_byte bytes) 0) (b ∷ bytes)))
        ≡ cond starts (Some (name_with b bytes)) None
    go true = cond-false _ _ _ (some_bytes (prefix_len is_name_byte bytes)) ∙ rw one-add
    go false = refl

-- a name that stands at the front of a text, as far as it goes
pub record NameFront (text name rest : List ℕ) : Type 0 where
  pub named : IsName name
  pub cut : text ≡ name ++ rest
  pub stops : Stops is_name_byte rest

pub some_same : {A : Type 0} {a b : A} → Some a ≡ Some b → a ≡ b
some_same is = cc

pub name_front : (text name rest : List ℕ) → name_at text ≡ Some (name, rest) → NameFront text name rest
name_front [] name rest is = cc
name_front (b ∷ bytes) name rest is = go (is_name_start b) refl (sym (name_by b bytes) ∙ is)
  where
    go : (starts : Bool) → is_name_start b ≡ starts → cond starts (Some (name_with b bytes)) None ≡ Some (name, rest) → NameFront (b ∷ bytes) name rest
    go false starts is = cc
    go true starts is =
        let same = some_same is in
        let name_is : b ∷ take (prefix_len is_name_byte bytes) bytes ≡ name = ap (λ x. x.0) same in
        let rest_is : drop (prefix_len is_name_byte bytes) bytes ≡ rest = ap (λ x. x.1) same in
        record {
          named = subst IsName name_is (and_from (is_name_start b) _ starts (front_all is_name_byte bytes));
          cut = ap (λ t. b ∷ t) (front_cut is_name_byte bytes) ∙ (λ i. name_is i ++ rest_is i);
          stops = subst (Stops is_name_byte) rest_is (front_stops is_name_byte bytes);
        }

pub name_found : (name rest : List ℕ) → IsName name → Stops is_name_byte rest → name_at (name ++ rest) ≡ Some (name, rest)
name_found [] rest named stops = cc
name_found (b ∷ name) rest named stops =
    let both = and_parts (is_name_start b) (list_all is_name_byte name) named in
    let front = front_is is_name_byte name rest both.1 stops in
    name_by b (name ++ rest) ∙ cond-true (is_name_start b) _ _ both.0 ∙ (λ i. Some (b ∷ front.taken i, front.left i))

-- no byte with which a name begins is white space or a mark of a head
pub record IsNoMark (b : ℕ) : Type 0 where
  pub white : is_white b ≡ false
  pub percent : eqb 37 b ≡ false
  pub slash : eqb 47 b ≡ false
  pub greater : eqb 62 b ≡ false

pub start_is_no_mark : (b : ℕ) → is_name_start b ≡ true → IsNoMark b
start_is_no_mark b is = record { white = grind (arith, nat_tests); percent = grind (arith, nat_tests); slash = grind (arith, nat_tests); greater = grind (arith, nat_tests) }

pub white_no_name : (b : ℕ) → is_white b ≡ true → is_name_byte b ≡ false
white_no_name b is = grind (arith, nat_tests)
