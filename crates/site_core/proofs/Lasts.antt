-- What comes with an Offer lasts, and a step of a site is one of an object under a lock.
use Rattle.std.proofs.Common.{◌≡◌, ℕ, zero, suc, ◌-◌, List, [], ◌∷◌, ◌++◌, Option, Some, None, refl, sym, ap, subst, ◌∙◌}
use Rattle.std.specs.Prelude.{IsSomeAnd, slice_get, slice_index_or, true}
use Rattle.edges.specs.Acted.{MatchActed}
use Rattle.edges.specs.declared.acted.Acted.{Acted}
use Rattle.edges.specs.declared.acted.Acted.TheVariants.{Did, Refused, NoMemory}
use Rattle.source_tree.specs.declared.file.File.{File}
use Rattle.source_tree.specs.Changed.{has_file}
use Rattle.site_words.specs.declared.words.Entry.{Entry}
use Rattle.site_words.specs.declared.words.Op.{Op}
use Rattle.site_words.specs.declared.words.Op.TheVariants as op
use Rattle.site_words.specs.declared.words.Opening.{Opening}
use Rattle.site_words.specs.declared.words.Refusal.{Refusal}
use Rattle.site_words.specs.declared.words.Run.{Run}
use Rattle.site_words.specs.Calls.{Stands}
use Rattle.site_words.specs.Law.{FindsFile, May, own, pass_of, run_of, trees_of}
use Rattle.site_words.specs.State.{after}
use Rattle.site_words.specs.Step.{step}
use Rattle.site_words.specs.Trees.{Needs}
use Rattle.site_words.proofs.Lasting.{trees_grow}
use Rattle.site_state.specs.declared.gift.Given.{Given}
use Rattle.site_state.specs.Gifts.{IsMade}
use Rattle.site_core.specs.Applies.{Applies, Replies}
use Rattle.site_core.specs.Lived.{Lived}

tree_stays : (trees new : List (List File)) (k : ℕ) (Q : List File → Type 0) → IsSomeAnd (slice_get trees k) Q → slice_index_or (trees ++ new) k [] ≡ slice_index_or trees k []
tree_stays [] new k Q h = absurd h
tree_stays (t ∷ trees) new zero Q h = refl
tree_stays (t ∷ trees) new (suc k) Q h = tree_stays trees new k Q h

module _ {P : Type 0} (made : P → List File → List ℕ → Type 0) where
  grown_made : (x : Opening) (front longer : List Entry) (new : List (List File)) (run : Option Run) (request : ℕ) (path : List ℕ) (v : Option P) → trees_of x longer ≡ trees_of x front ++ new → FindsFile x.version (trees_of x front) run path
      → IsMade made x front run (op.Offer request path) v → IsMade made x longer run (op.Offer request path) v
  grown_made x front longer new run request path None grown finds is = is
  grown_made x front longer new None request path (Some v) grown finds is = is
  grown_made x front longer new (Some run) request path (Some v) grown finds is =
      subst (λ t. made v t path)
      (sym (ap (λ trees. slice_index_or trees (run.version - x.version) []) grown ∙ tree_stays (trees_of x front) new (run.version - x.version) (λ tree. has_file path tree ≡ true) finds)) is

  pub made_lasts : (x : Opening) (front more : List Entry) (pass : ℕ) (o : Op) (v : Option P) → May x front pass (own pass front) o → IsMade made x front (run_of (own pass front)) o v → own pass (front ++ more) ≡ own pass front
      → IsMade made x (front ++ more) (run_of (own pass (front ++ more))) o v
  made_lasts x front more pass (op.Offer request path) v may is same =
      let grown = trees_grow x front more in
      subst (λ entries. IsMade made x (front ++ more) (run_of entries) (op.Offer request path) v) (sym same)
      (grown_made x front (front ++ more) grown.0 (run_of (own pass front)) request path v grown.1 may.2 is)
  made_lasts x front more pass other v may is same = is

-- a step of a site, as that of an object under a lock
pub as_object : {P : Type 0} (needs : Needs) (made : P → List File → List ℕ → Type 0) (old new : Lived) (pass : ℕ) (o : Op) (a : Acted (Given P) Refusal) → Applies needs made old new pass o a
    → MatchActed a (λ given. (e : Entry) × (pass_of e ≡ pass) × Stands e pass o given.reply × Replies needs made old.opening old.history pass o given × (new.history ≡ old.history ++ e ∷ []))
    (λ refusal. (step needs old.opening (after needs old.opening old.history) pass o ≡ Refused refusal) × (new.history ≡ old.history)) (new.history ≡ old.history)
as_object needs made old new pass o (Did given) applies = (record { pass = pass; op = o; reply = given.reply }, refl, refl, applies.0, ap (λ (v : Lived). v.history) applies.1)
as_object needs made old new pass o (Refused refusal) applies = (applies.0, ap (λ (v : Lived). v.history) applies.1)
as_object needs made old new pass o NoMemory applies = ap (λ (v : Lived). v.history) applies
