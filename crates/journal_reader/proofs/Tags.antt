-- Parts that begin with a byte for their kind.
use Rattle.std.proofs.Common.{◌≡◌, ℕ, List, [], ◌∷◌, sym, ap, ◌∙◌, append-nil, Option, Ok, Err}
use Rattle.std.specs.Prelude.{⊤}
use Rattle.journal_reader.proofs.Parts.{both_read, first_stops, memory_stops, refuses, second_memory, second_stops, stands_for}
use Rattle.journal_reader.specs.Reads.{Reads}
use Rattle.journal_reader.specs.declared.unread.Unread.{Unread}
use Rattle.journal_reader.specs.declared.unread.Unread.TheVariants.{NotThere}
use Rattle.pg_text.specs.declared.failure.Failure.{Failure}
use Rattle.pg_text.specs.declared.failure.Failure.TheVariants.{Fault, NoMemory}

abbrev pub IsByte : ℕ → Type 0
IsByte n = ⊤

abbrev pub of_byte : ℕ → List ℕ
of_byte n = n ∷ []

module _ {B : Type 0} (Q : B → Type 0) (g : B → List ℕ) (tag : B → ℕ) (body : B → List ℕ) (texts : (y : B) → g y ≡ tag y ∷ body y) where
  pub tag_stops : {left later : Option (List ℕ)} {room rest before now : ℕ} {failure : Failure Unread} → Reads IsByte of_byte left later room rest before now (Err failure) → Reads Q g left later room rest before now (Err failure)
  tag_stops was = first_stops IsByte of_byte Q g (λ y is. (tag y, body y, tt, texts y)) was

  -- the kind alone is the whole
  pub tag_alone : {left later : Option (List ℕ)} {room rest before now a0 : ℕ} (n : ℕ) (b : B) → a0 ≡ n → Q b → g b ≡ n ∷ [] → ((y : B) → tag y ≡ n → y ≡ b)
      → Reads IsByte of_byte left later room rest before now (Ok a0) → Reads Q g left later room rest before now (Ok b)
  tag_alone n b at is text only was = stands_for IsByte of_byte Q g is (text ∙ ap of_byte (sym at)) (λ y q. (tag y, body y, tt, texts y, λ e. only y (e ∙ at))) was

  -- there is no such kind
  pub tag_refuses : {left later : Option (List ℕ)} {room rest before now a0 : ℕ} → ((y : B) → tag y ≡ a0 → ⊥) → Reads IsByte of_byte left later room rest before now (Ok a0) → Reads Q g left later room rest before now (Err (Fault NotThere))
  tag_refuses none was = refuses IsByte of_byte Q g (λ y q. (tag y, body y, tt, texts y, none y)) was

  pub tag_memory : {left later : Option (List ℕ)} {room rest before now a0 : ℕ} → Reads IsByte of_byte left later room rest before now (Ok a0) → Reads Q g left later room rest before now (Err NoMemory)
  tag_memory was = memory_stops IsByte of_byte Q g was

  module _ {C : Type 0} (P : C → Type 0) (f : C → List ℕ) (make : C → B) (n : ℕ) (arm : (y : B) → Q y → tag y ≡ n → (x : C) × P x × (body y ≡ f x) × (y ≡ make x)) where
    pub body_stops : {left mid later : Option (List ℕ)} {room half rest before between now a0 : ℕ} {failure : Failure Unread} → a0 ≡ n
        → Reads IsByte of_byte left mid room half before between (Ok a0) → Reads P f mid later half rest between now (Err failure) → Reads Q g left later room rest before now (Err failure)
    body_stops at first second =
        second_stops IsByte of_byte P f Q g (λ y q. (tag y, body y, tt, texts y, λ e. let m = arm y q (e ∙ at) in (m.0, [], m.1, m.2 ∙ sym (append-nil (f m.0)), tt))) first second

    pub body_read : {left mid later : Option (List ℕ)} {room half rest before between now a0 : ℕ} {x0 : C} → a0 ≡ n → Q (make x0) → g (make x0) ≡ n ∷ f x0
        → Reads IsByte of_byte left mid room half before between (Ok a0) → Reads P f mid later half rest between now (Ok x0) → Reads Q g left later room rest before now (Ok (make x0))
    body_read {x0 = x0} at is text first second =
        both_read IsByte of_byte P f Q g is (text ∙ ap (λ t. t ∷ f x0) (sym at))
        (λ y q. (tag y, body y, tt, texts y, λ e. let m = arm y q (e ∙ at) in (m.0, [], m.1, m.2 ∙ sym (append-nil (f m.0)), λ last. m.3 ∙ ap make last))) first second

    pub body_memory : {left mid later : Option (List ℕ)} {room half rest before between now a0 : ℕ} {x0 : C} → Reads IsByte of_byte left mid room half before between (Ok a0) → Reads P f mid later half rest between now (Ok x0)
        → Reads Q g left later room rest before now (Err NoMemory)
    body_memory first second = second_memory IsByte of_byte P f Q g first second
