-- Parts that are other parts seen otherwise, and those of them that are as they should be.
use Rattle.std.proofs.Common.{◌≡◌, ℕ, List, [], ◌++◌, sym, ap, subst, ◌∙◌, append-nil, Option, Ok, Err}
use Rattle.std.specs.Prelude.{Result}
use Rattle.journal_reader.proofs.Parts.{GoesOn, both_read, first_stops, memory_stops, refuses, second_stops, stands_for}
use Rattle.journal_reader.specs.Reads.{Reads, Sorts}
use Rattle.journal_reader.specs.declared.unread.Unread.{Unread}
use Rattle.journal_reader.specs.declared.unread.Unread.TheVariants.{Failed, NotThere, TooLong}
use Rattle.pg_text.specs.declared.failure.Failure.{Failure}
use Rattle.pg_text.specs.declared.failure.Failure.TheVariants.{Fault, NoMemory}

module _ {A B : Type 0} (I : A → Type 0) (k : A → List ℕ) (Q : B → Type 0) (g : B → List ℕ) (from : B → A) (texts : (y : B) → g y ≡ k (from y)) (so : (y : B) → Q y → I (from y)) where
  -- what stops the reading of the one stops that of the other
  pub seen_stops : {left later : Option (List ℕ)} {room rest before now : ℕ} {failure : Failure Unread} → Reads I k left later room rest before now (Err failure) → Reads Q g left later room rest before now (Err failure)
  seen_stops was = first_stops I k Q g (λ y is. (from y, [], so y is, texts y ∙ sym (append-nil (k (from y))))) was

  -- the one was read, and so the other
  pub seen_read : {left later : Option (List ℕ)} {room rest before now : ℕ} {a0 : A} (b : B) → Q b → from b ≡ a0 → ((y : B) → from y ≡ a0 → y ≡ b) → Reads I k left later room rest before now (Ok a0) → Reads Q g left later room rest before now (Ok b)
  seen_read b is same one was = stands_for I k Q g is (texts b ∙ ap k same) (λ y q. (from y, [], so y q, texts y ∙ sym (append-nil (k (from y))), one y)) was

module _ {A B : Type 0} (I : A → Type 0) (k : A → List ℕ) (Q : B → Type 0) (g : B → List ℕ) (seen : B → A) (Such : A → Type 0) (texts : (y : B) → g y ≡ k (seen y))
    (so : (y : B) → Q y → I (seen y) × Such (seen y)) (is : (y : B) → I (seen y) → Such (seen y) → Q y) (one : (b c : B) → seen b ≡ seen c → b ≡ c) where
  -- what was read is kept where it is such
  pub sorted : {left later : Option (List ℕ)} {room rest before now : ℕ} {a0 : A} (r : Result B (Failure Unread)) → Reads I k left later room rest before now (Ok a0) → Sorts seen Such a0 r → Reads Q g left later room rest before now r
  sorted (Ok b) was sorts =
      stands_for I k Q g (is b (subst I (sym sorts.0) was.answered.is) (subst Such (sym sorts.0) sorts.1)) (texts b ∙ ap k sorts.0)
      (λ y q. (seen y, [], (so y q).0, texts y ∙ sym (append-nil (k (seen y))), λ e. one y b (e ∙ sym sorts.0))) was
  sorted (Err (Fault NotThere)) was sorts = refuses I k Q g (λ y q. (seen y, [], (so y q).0, texts y ∙ sym (append-nil (k (seen y))), λ e. sorts (subst Such e (so y q).1))) was
  sorted (Err (Fault TooLong)) was sorts = absurd sorts
  sorted (Err (Fault Failed)) was sorts = absurd sorts
  sorted (Err NoMemory) was sorts = memory_stops I k Q g was

module _ {A B : Type 0} (I : A → Type 0) (k : A → List ℕ) (P : B → Type 0) (f : B → List ℕ) (Q : B → Type 0) (g : B → List ℕ) where
  -- what is read behind the first part is the whole
  pub rest_read : {left mid later : Option (List ℕ)} {room half rest before between now : ℕ} {a0 : A} (r : Result B (Failure Unread)) → ((x : B) → P x → Q x) → ((x : B) → P x → g x ≡ k a0 ++ f x)
      → GoesOn I k P f Q g a0 (λ y x u. y ≡ x) → Reads I k left mid room half before between (Ok a0) → Reads P f mid later half rest between now r → Reads Q g left later room rest before now r
  rest_read (Ok x) is texts goes first second =
      both_read I k P f Q g (is x second.answered.is) (texts x second.answered.is)
      (λ y q. let n = goes y q in (n.0, n.1, n.2, n.3, λ e. let m = n.4 e in (m.0, m.1, m.2, m.3, λ last. m.4 ∙ last))) first second
  rest_read (Err failure) is texts goes first second =
      second_stops I k P f Q g (λ y q. let n = goes y q in (n.0, n.1, n.2, n.3, λ e. let m = n.4 e in (m.0, m.1, m.2, m.3, tt))) first second

-- each of the one is made of one of the other, and has its bytes
pub record IsMadeOf {A B : Type 0} (I : A → Type 0) (k : A → List ℕ) (Q : B → Type 0) (g : B → List ℕ) (make : A → B) : Type 0 where
  pub parts : (y : B) → Q y → (a : A) × I a × (g y ≡ k a) × (y ≡ make a)
  pub text : (a : A) → g (make a) ≡ k a

module _ {A B : Type 0} {I : A → Type 0} {k : A → List ℕ} {Q : B → Type 0} {g : B → List ℕ} {make : A → B} where
  pub made_stops : {left later : Option (List ℕ)} {room rest before now : ℕ} {failure : Failure Unread} → IsMadeOf I k Q g make → Reads I k left later room rest before now (Err failure) → Reads Q g left later room rest before now (Err failure)
  made_stops made was = first_stops I k Q g (λ y is. let p = made.parts y is in (p.0, [], p.1, p.2 ∙ sym (append-nil (k p.0)))) was

  pub made_read : {left later : Option (List ℕ)} {room rest before now : ℕ} {a0 : A} → IsMadeOf I k Q g make → Q (make a0) → Reads I k left later room rest before now (Ok a0) → Reads Q g left later room rest before now (Ok (make a0))
  made_read {a0 = a0} made is was = stands_for I k Q g is (made.text a0) (λ y q. let p = made.parts y q in (p.0, [], p.1, p.2 ∙ sym (append-nil (k p.0)), λ e. p.3 ∙ ap make e)) was

  pub made_so : {left later : Option (List ℕ)} {room rest before now : ℕ} {a0 : A} → IsMadeOf I k Q g make → ((a : A) → I a → Q (make a)) → Reads I k left later room rest before now (Ok a0) → Reads Q g left later room rest before now (Ok (make a0))
  made_so {a0 = a0} made is was = made_read made (is a0 was.answered.is) was
