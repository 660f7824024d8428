-- Visits, one after the other.
use Rattle.std.proofs.Common.{◌≡◌, ℕ, zero, suc, ◌+◌, Bool, true, false, List, Ok, Err, refl, sym, ap, ◌∙◌, arith, nat_lt}
use Rattle.std.specs.Prelude.{if◌then◌else◌}
use Rattle.run_world.specs.Origin.{Origin}
use Rattle.run_world.specs.Part.{given, Doing, Changes}
use Rattle.page_meaning.proofs.Growing.{same}
use Rattle.run_world.proofs.Adds.{Adds, visited_adds}
use Rattle.run_world.proofs.Parts.{as_doing, changed_doing, fail_doing, result_doing, then_doing, well_doing}
use Rattle.page_meaning.specs.State.{State}
use Rattle.page_meaning.specs.Went.{Did, Well, Raised, Ended, Awaits, then_do, result_of}
use Rattle.page_meaning.specs.Work.{visit, visit_limit}
use Rattle.page_table.specs.Operations.{visits}
use Rattle.pg_text.specs.declared.failure.Failure.{Failure}
use Rattle.pg_text.specs.declared.failure.Failure.TheVariants as failure
use Rattle.pg_text.specs.declared.place.Place.{Place}
use Rattle.pg_value.specs.declared.fault.RunFault.{RunFault}
use Rattle.pg_value.specs.declared.fault.RunFault.TheVariants as fault
use Rattle.site_words.specs.Law.{Answer}

-- so many visits are the first of them, and then the others
pub visits_split : (place : Place) (m n : ℕ) (s : State) → visits place (m + n) s ≡ then_do (visits place m s) (λ u s1. visits place n s1)
visits_split place zero n s = let e : zero + n ≡ n = omega arith in ap (λ k. visits place k s) e
visits_split place (suc m) n s =
    let e : suc m + n ≡ suc (m + n) = omega arith in ap (λ k. visits place k s) e ∙ go (λ t. visits_split place m n t) (visit place s)
  where
    go : ((t : State) → visits place (m + n) t ≡ then_do (visits place m t) (λ u s1. visits place n s1)) → (w : Did)
        → then_do w (λ u s1. visits place (m + n) s1) ≡ then_do (then_do w (λ u s1. visits place m s1)) (λ u s1. visits place n s1)
    go by (Well u t) = by t
    go by (Raised f at t) = refl
    go by (Ended leaving t) = refl
    go by (Awaits step t) = refl

pub visits_adds : (place : Place) (n : ℕ) → Adds (visits place n)
visits_adds place zero s = same s
visits_adds place (suc n) s = visited_adds place (visits place n) (visits_adds place n) s

visit_by : (place : Place) (s : State) (b : Bool) → nat_lt s.visits visit_limit ≡ b → visit place s ≡ (let w : Did = if b then Well tt (record s { visits = s.visits + 1 }) else Raised fault.TooMuchWork place s in w)
visit_by place s b e = ap (λ b. let w : Did = if b then Well tt (record s { visits = s.visits + 1 }) else Raised fault.TooMuchWork place s in w) e

module _ {W : Type 0} {reached : W → Origin → W → State → Type 0} {replies : W → List Answer} (count : W → ℕ) (tells : (first w : W) (origin : Origin) (s : State) → reached first origin w s → count w ≡ s.visits) where
  pub one_counted : (old new : W) → nat_lt (count old) visit_limit ≡ true → Changes reached (λ s. record s { visits = s.visits + 1 }) old new → replies new ≡ replies old
      → Doing reached replies (λ (u : Unit {0}). u) visit old new (Ok tt)
  one_counted old new within changes kept = as_doing old new (Ok tt)
      (λ first origin s stands place a. visit_by place (given a s) true (ap (λ n. nat_lt n visit_limit) (sym (tells first old origin s stands)) ∙ within))
      (changed_doing (λ s. record s { visits = s.visits + 1 }) old new (λ a s. refl) changes kept tt)

  pub none_left : (old new : W) → nat_lt (count old) visit_limit ≡ false → Changes reached (λ s. s) old new → replies new ≡ replies old
      → Doing reached replies (λ (u : Unit {0}). u) visit old new (Err (failure.Fault fault.TooMuchWork))
  none_left old new over changes kept = as_doing old new (Err (failure.Fault fault.TooMuchWork))
      (λ first origin s stands place a. visit_by place (given a s) false (ap (λ n. nat_lt n visit_limit) (sym (tells first old origin s stands)) ∙ over))
      (then_doing {view = λ (u : Unit {0}). u} (λ place u. result_of place (Err fault.TooMuchWork)) old new new tt (Err (failure.Fault fault.TooMuchWork)) (changed_doing (λ s. s) old new (λ a s. refl) changes kept tt)
      (result_doing new (Err fault.TooMuchWork) (Err (failure.Fault fault.TooMuchWork)) refl))

  -- one more visit behind others, and one that fails with others behind it
  pub one_more : (old mid new : W) (n more : ℕ) → more ≡ n + 1 → Doing reached replies (λ (u : Unit {0}). u) (λ place. visits place n) old mid (Ok tt)
      → Doing reached replies (λ (u : Unit {0}). u) visit mid new (Ok tt) → Doing reached replies (λ (u : Unit {0}). u) (λ place. visits place more) old new (Ok tt)
  one_more old mid new n more e one two = as_doing old new (Ok tt)
      (λ first origin s stands place a. ap (λ k. visits place k (given a s)) e ∙ visits_split place n 1 (given a s))
      (then_doing (λ place u. visits place 1) old mid new tt (Ok tt) one (then_doing (λ place u. visits place 0) mid new new tt (Ok tt) two (well_doing new tt)))

  pub one_less : (old mid new : W) (n rest all : ℕ) (e : Failure RunFault) → all ≡ n + suc rest → Doing reached replies (λ (u : Unit {0}). u) (λ place. visits place n) old mid (Ok tt)
      → Doing reached replies (λ (u : Unit {0}). u) visit mid new (Err e) → Doing reached replies (λ (u : Unit {0}). u) (λ place. visits place all) old new (Err e)
  one_less old mid new n rest all e is one two = as_doing old new (Err e)
      (λ first origin s stands place a. ap (λ k. visits place k (given a s)) is ∙ visits_split place n (suc rest) (given a s))
      (then_doing (λ place u. visits place (suc rest)) old mid new tt (Err e) one (fail_doing (λ place u. visits place rest) mid new e (λ place u. visits_adds place rest) two))
