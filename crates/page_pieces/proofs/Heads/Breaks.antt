-- From why no head stands at a place back to the fault that its reading gives.
use Rattle.std.proofs.Common.{◌≡◌, ℕ, inl, inr, Result, Ok, Err, List, [], refl, sym, ap, ◌∙◌, subst, append-nil}
use Rattle.page_pieces.specs.declared.spot.Spot.{Spot}
use Rattle.page_pieces.specs.declared.piece.Piece.{Piece}
use Rattle.page_pieces.specs.declared.piece.Break.{Break}
use Rattle.page_pieces.specs.Tags.{WrittenHead, BeginsHead, CouldBeHead}
use Rattle.page_pieces.specs.Breaks.{IsUnreadHead, IsHeadBreak}
use Rattle.page_pieces.specs.ReadHead.{◌>>=◌, map_err}

-- a text that begins with a head could be one
could_be : (Is : WrittenHead → Type 0) (text : List ℕ) → BeginsHead Is text → CouldBeHead Is text
could_be Is text begins = record { more = []; begins = subst (BeginsHead Is) (sym (append-nil text)) begins }

one_unread : (Is : WrittenHead → Type 0) (spot : Spot) (text : List ℕ) (one other : Break) → IsUnreadHead Is spot text one → IsUnreadHead Is spot text other → one ≡ other
one_unread Is spot text one other (inl (not_yet, could, is)) (inl (not_yet2, could2, is2)) = is ∙ sym is2
one_unread Is spot text one other (inl (not_yet, could, is)) (inr (never, is2)) = absurd (never could)
one_unread Is spot text one other (inr (never, is)) (inl (not_yet, could, is2)) = absurd (never could)
one_unread Is spot text one other (inr (never, is)) (inr (never2, is2)) = is ∙ sym is2

not_read : (Is : WrittenHead → Type 0) (spot : Spot) (text : List ℕ) (fault : Break) → IsUnreadHead Is spot text fault → ¬ (BeginsHead Is text)
not_read Is spot text fault (inl (not_yet, could, is)) begins = not_yet begins
not_read Is spot text fault (inr (never, is)) begins = never (could_be Is text begins)

-- a reading that gives a fault only for a break, and a head else, gives the fault of each break
pub break_back : (read : Result (Piece × List ℕ) Break) (HasBad : Break → Type 0) (Is : WrittenHead → Type 0) (spot : Spot) (text : List ℕ)
    → ((found : Piece × List ℕ) → read ≡ Ok found → BeginsHead Is text)
    → ((fault : Break) → read ≡ Err fault → IsHeadBreak HasBad Is spot text fault)
    → ((fault : Break) → HasBad fault → read ≡ Err fault)
    → (fault : Break) → IsHeadBreak HasBad Is spot text fault → read ≡ Err fault
break_back read HasBad Is spot text heads breaks bad fault (inl has_bad) = bad fault has_bad
break_back read HasBad Is spot text heads breaks bad fault (inr (none, unread)) = go read refl
  where
    same : (other : Break) → IsHeadBreak HasBad Is spot text other → other ≡ fault
    same other (inl has_bad) = absurd (none other has_bad)
    same other (inr (none, unread2)) = one_unread Is spot text other fault unread2 unread

    go : (r : Result (Piece × List ℕ) Break) → read ≡ r → r ≡ Err fault
    go (Ok found) is = absurd (not_read Is spot text fault unread (heads found is))
    go (Err other) is = ap Err (same other (breaks other is))

-- what was not read first is why nothing was read
pub bind_err : {A B E : Type 0} (r : Result A E) (f : A → B) (e : E) → (r >>= (λ x. Ok (f x))) ≡ Err e → r ≡ Err e
bind_err (Ok x) f e is = cc
bind_err (Err other) f e is = cc

pub err_same : {A E : Type 0} {x y : E} → ◌≡◌ {A = Result A E} (Err x) (Err y) → x ≡ y
err_same is = cc

pub map_err_ok : {A E F : Type 0} (f : E → F) (r : Result A E) (x : A) → map_err f r ≡ Ok x → r ≡ Ok x
map_err_ok f (Ok y) x is = cc
map_err_ok f (Err e) x is = cc

-- the error that was changed
pub record Changed {A E F : Type 0} (f : E → F) (r : Result A E) (e : F) : Type 0 where
  pub inner : E
  pub is : r ≡ Err inner
  pub changed : e ≡ f inner

pub map_err_err : {A E F : Type 0} (f : E → F) (r : Result A E) (e : F) → map_err f r ≡ Err e → Changed f r e
map_err_err f (Ok x) e is = cc
map_err_err f (Err inner) e is = record { inner = inner; is = refl; changed = cc }
