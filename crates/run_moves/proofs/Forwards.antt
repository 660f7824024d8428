-- What is asked before a page goes over to another.
use Rattle.std.proofs.Common.{◌≡◌, ℕ, zero, suc, Bool, true, false, List, Result, Ok, Err, refl, sym, ap, ◌∙◌, subst}
use Rattle.std.specs.Prelude.{◌&&◌}
use Rattle.http_in.specs.declared.params.Param.{Param}
use Rattle.out_buffer.specs.Writer.{has_committed}
use Rattle.page_meaning.specs.Context.{Run, Served, Paged, absent, plain, bad, good}
use Rattle.page_meaning.specs.Growth.{Grows}
use Rattle.page_meaning.specs.Includes.{ask_page, fetched_or_fault, is_page_path, target_params, target_path}
use Rattle.page_meaning.specs.State.{State}
use Rattle.page_meaning.specs.Went.{Went, Well, Raised, then_do, either, result_of}
use Rattle.page_meaning.specs.Work.{fetched, is_spent}
use Rattle.page_table.specs.Program.{Serving, served_of}
use Rattle.pg_text.specs.Failure.{Answers}
use Rattle.pg_text.specs.declared.failure.Failure.{Failure}
use Rattle.pg_text.specs.declared.failure.Failure.TheVariants as failure
use Rattle.pg_text.specs.declared.place.Place.{Place}
use Rattle.pg_text.specs.declared.resolution.BadPath.{BadPath}
use Rattle.pg_value.specs.declared.fault.RunFault.{RunFault}
use Rattle.pg_value.specs.declared.fault.RunFault.TheVariants as fault
use Rattle.run_moves.specs.Leaving.{Goal, forward_asked, forward_at_asked, forward_path_asked, path_named}
use Rattle.page_meaning.proofs.Growing.{asks, same}
use Rattle.run_world.proofs.Adds.{Adds, eithers, raised, thens, well}
use Rattle.run_world.proofs.Parts.{as_doing, fail_doing, result_doing, then_doing, well_doing}
use Rattle.run_world.specs.Origin.{Origin}
use Rattle.run_world.specs.Part.{given, Doing}
use Rattle.site_words.specs.Law.{Answer}
use Rattle.site_words.specs.PageSteps.{fetch}

-- what asking for a page adds
fetched_grows : (path : List ℕ) (s : State) → Grows s (fetched path s)
fetched_grows path s = asks (fetch path) s (fetched path s) refl refl refl

fetched_adds : (place : Place) (path : List ℕ) (paged : Paged) → Adds (fetched_or_fault place path paged)
fetched_adds place path absent s = same s
fetched_adds place path (plain t) s = same s
fetched_adds place path (bad f) s = fetched_grows path s
fetched_adds place path (good page) s = fetched_grows path s

ask_page_adds : (served : Served) (place : Place) (path : List ℕ) → Adds (ask_page served place path)
ask_page_adds served place path s =
    eithers (is_page_path path && is_spent s) (Raised fault.AppTooMuch place) (fetched_or_fault place path (served.pages path)) (raised Paged fault.AppTooMuch place)
    (fetched_adds place path (served.pages path)) s

-- a target, as it was read
pub forward_read : {W A : Type 0} {reached : W → Origin → W → State → Type 0} {replies : W → List Answer} {view : A → Goal} (serving : Serving) (n : ℕ) (run : Run) (more : List Param) (read target : List ℕ) (old new : W)
    (answer : Result A (Failure RunFault)) → read ≡ target → Doing reached replies view (λ place. forward_asked serving n place run read more) old new answer
    → Doing reached replies view (λ place. forward_asked serving n place run target more) old new answer
forward_read {reached = reached} {replies = replies} {view = view} serving n run more read target old new answer e does =
    subst (λ t. Doing reached replies view (λ place. forward_asked serving n place run t more) old new answer) e does

module _ (serving : Serving) (n : ℕ) (run : Run) (target : List ℕ) (more : List Param) where
  abbrev all : List Param
  all = target_params run target more

  abbrev goal_at : List ℕ → ℕ → Goal
  goal_at path left = record { path = path; params = all; left = left }

  path_adds : (place : Place) (n : ℕ) (path : List ℕ) → Adds (forward_path_asked serving n place all path)
  path_adds place zero path s = same s
  path_adds place (suc left) path s =
      thens (ask_page (served_of serving) place path) (λ paged s1. Well (goal_at path left) s1) (ask_page_adds (served_of serving) place path) (λ paged. well (goal_at path left)) s

  -- a target's path first, then what stands there
  at_is : (place : Place) (r : Result (List ℕ) BadPath) (s : State)
      → forward_at_asked serving n place all r s ≡ then_do (result_of place (path_named r) s) (λ path s1. forward_path_asked serving n place all path s1)
  at_is place (Ok path) s = refl
  at_is place (Err reason) s = refl

  at_adds : (place : Place) (r : Result (List ℕ) BadPath) → Adds (forward_at_asked serving n place all r)
  at_adds place (Ok path) s = path_adds place n path s
  at_adds place (Err reason) s = same s

  pub forward_adds : (place : Place) → Adds (λ s. forward_asked serving n place run target more s)
  forward_adds place s =
      eithers (has_committed s.writer) (Raised fault.Committed place) (forward_at_asked serving n place all (target_path run target)) (raised Goal fault.Committed place)
      (at_adds place (target_path run target)) s

  module _ {W : Type 0} {reached : W → Origin → W → State → Type 0} {replies : W → List Answer} where
    module _ (committed : W → Bool) (tells : (first w : W) (origin : Origin) (s : State) → reached first origin w s → committed w ≡ has_committed s.writer) where
      pub forward_committed : {A : Type 0} {view : A → Goal} (w : W) → committed w ≡ true
          → Doing reached replies view (λ place. forward_asked serving n place run target more) w w (Err (failure.Fault fault.Committed))
      forward_committed w e = as_doing w w (Err (failure.Fault fault.Committed))
          (λ first origin s h place a. ap (λ b. either b (Raised fault.Committed place) (forward_at_asked serving n place all (target_path run target)) (given a s)) (sym (tells first w origin s h) ∙ e))
          (result_doing w (Err fault.Committed) (Err (failure.Fault fault.Committed)) refl)

      -- the same as what is asked of the path
      uncommitted : {A : Type 0} {view : A → Goal} (old new : W) (answer : Result A (Failure RunFault)) → committed old ≡ false
          → Doing reached replies view (λ place s. then_do (result_of place (path_named (target_path run target)) s) (λ path s1. forward_path_asked serving n place all path s1)) old new answer
          → Doing reached replies view (λ place. forward_asked serving n place run target more) old new answer
      uncommitted old new answer e does = as_doing old new answer
          (λ first origin s h place a. ap (λ b. either b (Raised fault.Committed place) (forward_at_asked serving n place all (target_path run target)) (given a s)) (sym (tells first old origin s h) ∙ e)
          ∙ at_is place (target_path run target) (given a s))
          does

      pub forward_unnamed : {A : Type 0} {view : A → Goal} (w : W) (f : Failure RunFault) → committed w ≡ false → Answers (path_named (target_path run target)) (Err f)
          → Doing reached replies view (λ place. forward_asked serving n place run target more) w w (Err f)
      forward_unnamed w f e answers = uncommitted w w (Err f) e
          (fail_doing (λ place path s1. forward_path_asked serving n place all path s1) w w f (λ place path. path_adds place n path) (result_doing {view = λ (x : List ℕ). x} w (path_named (target_path run target)) (Err f) answers))

      -- a target that names a path
      module _ (old new : W) (path : List ℕ) (e : committed old ≡ false) (names : path_named (target_path run target) ≡ Ok path) where
        named : {A : Type 0} {view : A → Goal} (answer : Result A (Failure RunFault)) → Doing reached replies view (λ place. forward_path_asked serving n place all path) old new answer
            → Doing reached replies view (λ place. forward_asked serving n place run target more) old new answer
        named answer does = uncommitted old new answer e
            (then_doing (λ place path s1. forward_path_asked serving n place all path s1) old old new path answer
            (result_doing {view = λ (x : List ℕ). x} old (path_named (target_path run target)) (Ok path) names) does)

        pub forward_unasked : {A B : Type 0} {view : A → Paged} {seen : B → Goal} (left : ℕ) (f : Failure RunFault) → n ≡ suc left
            → Doing reached replies view (λ place. ask_page (served_of serving) place path) old new (Err f)
            → Doing reached replies seen (λ place. forward_asked serving n place run target more) old new (Err f)
        forward_unasked left f deep does = named (Err f)
            (as_doing old new (Err f) (λ first origin s h place a. ap (λ k. forward_path_asked serving k place all path (given a s)) deep)
            (fail_doing (λ place paged s1. Well (goal_at path left) s1) old new f (λ place paged. well (goal_at path left)) does))

        pub forward_well : {A B : Type 0} {view : A → Paged} {seen : B → Goal} (left : ℕ) (page : A) (found : B) → n ≡ suc left → seen found ≡ goal_at path left
            → Doing reached replies view (λ place. ask_page (served_of serving) place path) old new (Ok page)
            → Doing reached replies seen (λ place. forward_asked serving n place run target more) old new (Ok found)
        forward_well {seen = seen} left page found deep is does = named (Ok found)
            (as_doing old new (Ok found) (λ first origin s h place a. ap (λ k. forward_path_asked serving k place all path (given a s)) deep)
            (then_doing (λ place paged s1. Well (goal_at path left) s1) old new new page (Ok found) does
            (as_doing new new (Ok found) (λ first origin s h place a. ap (λ (g : Goal). let w : Went Goal = Well g (given a s) in w) (sym is)) (well_doing {view = seen} new found))))

      pub forward_deep : {A : Type 0} {view : A → Goal} (w : W) (path : List ℕ) → committed w ≡ false → path_named (target_path run target) ≡ Ok path → n ≡ zero
          → Doing reached replies view (λ place. forward_asked serving n place run target more) w w (Err (failure.Fault fault.TooDeep))
      forward_deep w path e names deep = named w w path e names (Err (failure.Fault fault.TooDeep))
          (as_doing w w (Err (failure.Fault fault.TooDeep)) (λ first origin s h place a. ap (λ k. forward_path_asked serving k place all path (given a s)) deep)
          (result_doing w (Err fault.TooDeep) (Err (failure.Fault fault.TooDeep)) refl))
