-- Where a page may run, and what its run keeps.
use Rattle.std.proofs.Common.{◌≡◌, ◌⊎◌, inl, inr, ℕ, ◌+◌, ◌≤◌, Bool, true, false, List, [], Option, Some, None, is_some, refl, sym, ap, subst, ◌∙◌, arith}
use Rattle.request_pages.proofs.PlayedLemmas.{none_committed}
use Rattle.request_pages.specs.Played.{IsFunded, session_claim}
use Rattle.request_pages.specs.Point.{Point}
use Rattle.request_pages.specs.Ready.{HasPage, KeepsRequest}
use Rattle.request_pages.specs.declared.request_state.RequestState.{RequestState}
use Rattle.run_pages.specs.Run.{IsInOrder}
use Rattle.run_stage.specs.Keeping.{HasCharged, KeepsSession, fresh_claim, session_weight}
use Rattle.run_stage.specs.declared.limits.TheConstants.{MAX_ASKED_CHARGE, RUN_PROMISE}
use Rattle.run_world.specs.declared.around.Around.{Around}
use Rattle.run_world.specs.declared.program.Program.{Program}
use Rattle.run_world.specs.declared.raised.Raise.{Raise}
use Rattle.scopes.specs.Limits.{max_session_weight}
use Rattle.scopes.specs.Scopes.{Entries, ScopeState}
use Rattle.site_words.specs.Running.{Asking}
use Rattle.source_tree.specs.declared.file.File.{File}

-- where nothing was committed nothing is in the state
pub page_uncommitted : (program : Program) (tree : List File) (point : Point) (known : HasPage program tree point) → point.state.writer.committed ≡ false → known.state.writer.pieces ≡ []
page_uncommitted program tree point known none =
    none_committed known.origin point.state.scopes point.state.writer point.taken point.faults point.state.around point.asking known.state none known.stands

-- all is in order where a page has begun
pub begun_in_order : (old new : RequestState) (asking : Asking) → new.scopes.session ≡ old.scopes.session → new.around ≡ old.around → IsInOrder old.scopes old.around asking → IsInOrder new.scopes new.around asking
begun_in_order old new asking session around h =
    subst (λ (a : Around). IsInOrder new.scopes a asking) (sym around) (record {
      session = ap (λ (x : Option Entries). is_some x) session ∙ h.session;
      asked = h.asked;
      weight = subst (λ (x : Option Entries). session_weight x ≤ max_session_weight) (sym session) h.weight;
      visits = h.visits;
      charge = h.charge;
    })

-- and where an error page begins
pub again_in_order : (scopes : ScopeState) (around : Around) (raise : Option Raise) (asking : Asking) → IsInOrder scopes around asking → IsInOrder scopes (record around { visits = 0; depth = 0; exception = raise }) asking
again_in_order scopes around raise asking h = record { session = h.session; asked = h.asked; weight = h.weight; visits = omega arith; charge = h.charge }

-- the promise covers the run of a page that has begun
pub begun_funded : (old new : Around) (asking : Asking) → new ≡ old → IsFunded old asking → RUN_PROMISE ≤ new.charge + asking.left
begun_funded old new asking same funded = let charge : new.charge ≡ old.charge = ap (λ (a : Around). a.charge) same in omega (arith, charge, funded)

-- nothing is asked between a point and itself
pub keeps_here : (point : Point) → KeepsRequest point point
keeps_here point = record {
  charged = record { charge = inl refl; promise = omega arith };
  session = record { stays = λ had. (refl, refl) };
  exception = refl;
}

-- what is kept from where a page has begun is kept from before that
pub keeps_begun : (old mid new : Point) → mid.state.around ≡ old.state.around → mid.asking ≡ old.asking → KeepsRequest mid new → KeepsRequest old new
keeps_begun old mid new around asking keeps = record {
  charged = subst (λ (a : Asking). HasCharged old.state.around new.state.around a new.asking) asking (subst (λ (a : Around). HasCharged a new.state.around mid.asking new.asking) around keeps.charged);
  session = subst (λ (a : Around). KeepsSession a new.state.around) around keeps.session;
  exception = keeps.exception ∙ ap (λ (a : Around). a.exception) around;
}

-- a session that was there is there
still : (old new : Around) → KeepsSession old new → is_some old.id ≡ true → is_some new.id ≡ true
still old new session had = ap (λ (id : Option (List ℕ)). is_some id) (session.stays had).0 ∙ had

charge_on : (a b c : ℕ) → (b ≡ a) ⊎ (b ≤ MAX_ASKED_CHARGE) → (c ≡ b) ⊎ (c ≤ MAX_ASKED_CHARGE) → (c ≡ a) ⊎ (c ≤ MAX_ASKED_CHARGE)
charge_on a b c (inl same) (inl more) = inl (more ∙ same)
charge_on a b c (inr low) (inl more) = inr (subst (λ (n : ℕ). n ≤ MAX_ASKED_CHARGE) (sym more) low)
charge_on a b c first (inr low) = inr low

-- a session is made once

claims_on : (a b c : Bool) → (a ≡ true → b ≡ true) → (b ≡ true → c ≡ true) → fresh_claim a b + fresh_claim b c ≤ fresh_claim a c
claims_on true true true first second = omega arith
claims_on true true false first second = omega arith
claims_on true false true first second = absurd (let e : false ≡ true = first refl in cc)
claims_on true false false first second = omega arith
claims_on false true true first second = omega arith
claims_on false true false first second = absurd (let e : false ≡ true = second refl in cc)
claims_on false false true first second = omega arith
claims_on false false false first second = omega arith

claim_falls : (was id : Option (List ℕ)) → (is_some was ≡ true → is_some id ≡ true) → session_claim id + fresh_claim (is_some was) (is_some id) ≤ session_claim was
claim_falls None None stays = omega arith
claim_falls None (Some new) stays = omega arith
claim_falls (Some old) None stays = absurd (let e : false ≡ true = stays refl in cc)
claim_falls (Some old) (Some new) stays = omega arith

-- what two runs keep, one after the other
pub keeps_on : (old mid new : Point) → KeepsRequest old mid → KeepsRequest mid new → KeepsRequest old new
keeps_on old mid new first second =
    let claims = claims_on (is_some old.state.around.id) (is_some mid.state.around.id) (is_some new.state.around.id) (still old.state.around mid.state.around first.session) (still mid.state.around new.state.around second.session) in
    let one = first.charged.promise in
    let two = second.charged.promise in
    record {
      charged = record {
        charge = charge_on old.state.around.charge mid.state.around.charge new.state.around.charge first.charged.charge second.charged.charge;
        promise = omega (arith, claims, one, two);
      };
      session = record {
        stays = λ had.
            let kept = first.session.stays had in
            let later = second.session.stays (still old.state.around mid.state.around first.session had) in
            (later.0 ∙ kept.0, later.1 ∙ kept.1);
      };
      exception = second.exception ∙ first.exception;
    }

-- a promise that covered a run covers the next
pub kept_funded : (old new : Point) → KeepsRequest old new → IsFunded old.state.around old.asking → IsFunded new.state.around new.asking
kept_funded old new keeps funded =
    let claim = claim_falls old.state.around.id new.state.around.id (still old.state.around new.state.around keeps.session) in
    let promise = keeps.charged.promise in
    omega (arith, claim, promise, funded)

-- a charge that was low is low
pub kept_low : (old new : ℕ) → (new ≡ old) ⊎ (new ≤ MAX_ASKED_CHARGE) → old ≤ MAX_ASKED_CHARGE → new ≤ MAX_ASKED_CHARGE
kept_low old new (inl same) low = subst (λ (n : ℕ). n ≤ MAX_ASKED_CHARGE) (sym same) low
kept_low old new (inr less) low = less
