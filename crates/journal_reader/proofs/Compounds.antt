-- Pairs, lists and optional parts that are read.
use Rattle.std.proofs.Common.{◌≡◌, ℕ, List, [], ◌∷◌, ◌++◌, length, refl, sym, ap, subst, ◌∙◌, append-nil, arith, Option, Some, None, Ok, Err}
use Rattle.std.specs.Prelude.{Result, flat_map, ⊤}
use Rattle.journal_reader.proofs.Parts.{GoesOn, Opens, both_read, first_stops, second_stops}
use Rattle.journal_reader.proofs.Views.{rest_read}
use Rattle.journal_reader.specs.Reads.{AreSo, Reads}
use Rattle.journal_reader.specs.declared.unread.Unread.{Unread}
use Rattle.pg_text.specs.declared.failure.Failure.{Failure}
use Rattle.site_journal.specs.Codes.{IsList, IsNumber, IsOption, of_list, of_number, of_option}

-- one behind the other

module _ {A B : Type 0} (I : A → Type 0) (k : A → List ℕ) (P : B → Type 0) (f : B → List ℕ) where
  pub pair_opens : Opens I k (λ (y : A × B). I y.0 × P y.1) (λ y. k y.0 ++ f y.1)
  pair_opens y is = (y.0, f y.1, is.0, refl)

  pub pair_goes : (a0 : A) (x0 : B) → GoesOn I k P f (λ (y : A × B). I y.0 × P y.1) (λ y. k y.0 ++ f y.1) a0 (λ y x u. x ≡ x0 → y ≡ (a0, x0))
  pair_goes a0 x0 y is = (y.0, f y.1, is.0, refl, λ e. (y.1, [], is.1, sym (append-nil (f y.1)), λ last. ap (λ a. (a, y.1)) e ∙ ap (λ x. (a0, x)) last))

  pub pair_stops : (a0 : A) → GoesOn I k P f (λ (y : A × B). I y.0 × P y.1) (λ y. k y.0 ++ f y.1) a0 (λ y x u. ⊤)
  pair_stops a0 y is = (y.0, f y.1, is.0, refl, λ e. (y.1, [], is.1, sym (append-nil (f y.1)), tt))

  pub pair_first : {left later : Option (List ℕ)} {room rest before now : ℕ} {failure : Failure Unread} → Reads I k left later room rest before now (Err failure)
      → Reads (λ (y : A × B). I y.0 × P y.1) (λ y. k y.0 ++ f y.1) left later room rest before now (Err failure)
  pair_first was = first_stops I k (λ (y : A × B). I y.0 × P y.1) (λ y. k y.0 ++ f y.1) pair_opens was

  pub pair_second : {left mid later : Option (List ℕ)} {room half rest before between now : ℕ} {a0 : A} {failure : Failure Unread} → Reads I k left mid room half before between (Ok a0) → Reads P f mid later half rest between now (Err failure)
      → Reads (λ (y : A × B). I y.0 × P y.1) (λ y. k y.0 ++ f y.1) left later room rest before now (Err failure)
  pair_second {a0 = a0} first second = second_stops I k P f (λ (y : A × B). I y.0 × P y.1) (λ y. k y.0 ++ f y.1) (pair_stops a0) first second

  pub pair_read : {left mid later : Option (List ℕ)} {room half rest before between now : ℕ} {a0 : A} {x0 : B} → Reads I k left mid room half before between (Ok a0) → Reads P f mid later half rest between now (Ok x0)
      → Reads (λ (y : A × B). I y.0 × P y.1) (λ y. k y.0 ++ f y.1) left later room rest before now (Ok (a0, x0))
  pair_read {a0 = a0} {x0 = x0} first second = both_read I k P f (λ (y : A × B). I y.0 × P y.1) (λ y. k y.0 ++ f y.1) (first.answered.is, second.answered.is) refl (pair_goes a0 x0) first second

-- a list is its count, then its items

module _ {A : Type 0} (P : A → Type 0) (f : A → List ℕ) where
  pub list_opens : Opens IsNumber of_number (IsList P) (of_list f)
  list_opens xs is = (length xs, flat_map f xs, is.0, refl)

  pub list_goes : (count : ℕ) → GoesOn IsNumber of_number (AreSo count P) (flat_map f) (IsList P) (of_list f) count (λ y x u. y ≡ x)
  list_goes count xs is = (length xs, flat_map f xs, is.0, refl, λ e. (xs, [], (e, is.1), sym (append-nil (flat_map f xs)), refl))

  pub list_is : (count : ℕ) → IsNumber count → (xs : List A) → AreSo count P xs → IsList P xs
  list_is count below xs so = (subst IsNumber (sym so.0) below, so.1)

  pub list_text : (count : ℕ) (xs : List A) → AreSo count P xs → of_list f xs ≡ of_number count ++ flat_map f xs
  list_text count xs so = ap (λ n. of_number n ++ flat_map f xs) so.0

  pub list_first : {left later : Option (List ℕ)} {room rest before now : ℕ} {failure : Failure Unread} → Reads IsNumber of_number left later room rest before now (Err failure) → Reads (IsList P) (of_list f) left later room rest before now (Err failure)
  list_first was = first_stops IsNumber of_number (IsList P) (of_list f) list_opens was

  pub list_read : {left mid later : Option (List ℕ)} {room half rest before between now count : ℕ} (r : Result (List A) (Failure Unread)) → Reads IsNumber of_number left mid room half before between (Ok count)
      → Reads (AreSo count P) (flat_map f) mid later half rest between now r → Reads (IsList P) (of_list f) left later room rest before now r
  list_read {count = count} r first second = rest_read IsNumber of_number (AreSo count P) (flat_map f) (IsList P) (of_list f) r (list_is count first.answered.is) (list_text count) (list_goes count) first second

-- an optional part by its byte

module _ {A : Type 0} (f : A → List ℕ) where
  abbrev pub option_tag : Option A → ℕ
  option_tag None = 0
  option_tag (Some x) = 1

  abbrev pub option_body : Option A → List ℕ
  option_body None = []
  option_body (Some x) = f x

  pub option_text : (y : Option A) → of_option f y ≡ option_tag y ∷ option_body y
  option_text None = refl
  option_text (Some x) = refl

  pub option_arm : (P : A → Type 0) (y : Option A) → IsOption P y → option_tag y ≡ 1 → (x : A) × P x × (option_body y ≡ f x) × (y ≡ Some x)
  option_arm P None is e = absurd (omega (arith, e))
  option_arm P (Some x) is e = (x, is, refl, refl)
