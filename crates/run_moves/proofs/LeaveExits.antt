-- The exits of an instruction that leaves a page.
use Rattle.std.proofs.Common.{◌≡◌, ◌≤◌, ℕ, List, length, Ok, Err, refl, sym, ap, ◌∙◌, subst}
use Rattle.std.specs.Prelude.{take, drop, reverse}
use Rattle.out_buffer.specs.Writer.{cleared}
use Rattle.page_code.specs.Ops.{address_with}
use Rattle.page_code.specs.declared.call.Leave.{Leave}
use Rattle.page_code.specs.declared.call.Leave.TheVariants as leave
use Rattle.run_moves.specs.Acted.{Acted, ActedFor}
use Rattle.run_world.specs.Origin.{Origin}
use Rattle.run_world.specs.Part.{Doing, Changes}
use Rattle.run_moves.specs.Landing.{failing}
use Rattle.run_moves.specs.Leaving.{forward_asked, goal_of, redirect_asked}
use Rattle.run_moves.specs.declared.flow.End.TheVariants as ends
use Rattle.run_moves.specs.declared.flow.Flow.{Flow}
use Rattle.run_moves.specs.declared.flow.Flow.TheVariants as flows
use Rattle.run_moves.specs.declared.leave.Forward as machine_forward
use Rattle.run_moves.proofs.Acts.{acted_as, acted_behind, acted_forward, acted_redirect}
use Rattle.page_meaning.proofs.Growing.{quiet, same}
use Rattle.run_moves.proofs.Behind.{fell_at}
use Rattle.run_moves.proofs.Landings.{popped_all_is}
use Rattle.run_moves.proofs.Leavings.{forward_is, leaves_for, redirect_is}
use Rattle.page_meaning.specs.Addresses.{redirect_mean}
use Rattle.page_meaning.specs.Includes.{forward_mean}
use Rattle.page_meaning.specs.State.{State, in_writer}
use Rattle.page_meaning.specs.Went.{Did, Went, Well, Raised, Ended, Awaits, redirects, then_do}
use Rattle.page_table.specs.Act.{leaving, with_stack}
use Rattle.page_table.specs.Landing.{Config, Over, then_at}
use Rattle.page_table.specs.Move.{On}
use Rattle.page_table.specs.Open.{Open}
use Rattle.page_table.specs.Operations.{behind_first, levels, params_in, text_at}
use Rattle.page_table.specs.Program.{Serving, served_of}
use Rattle.page_table.specs.Seat.{Seat, page_run_of}
use Rattle.pg_text.specs.declared.failure.Failure.{Failure}
use Rattle.pg_text.specs.declared.failure.Failure.TheVariants as failure
use Rattle.pg_text.specs.declared.place.Place.{Place}
use Rattle.pg_value.specs.Datum.{Datum}
use Rattle.pg_value.specs.declared.fault.RunFault.{RunFault}
use Rattle.site_words.specs.Law.{Answer}

-- the end of a page that goes well is the end of its run
abbrev over_of : Open → Did → Config
over_of p d = then_at p d (λ u s. Over (Well u s))

one_part : {A : Type 0} (p : Open) (w : Went A) (leaves : A → State → Did) → over_of p (then_do w leaves) ≡ then_at p w (λ a t. over_of p (leaves a t))
one_part p (Well a s) leaves = refl
one_part p (Raised f place s) leaves = refl
one_part p (Ended leaving s) leaves = refl
one_part p (Awaits step s) leaves = refl

module _ (serving : Serving) (seat : Seat) (place : Place) (o p : Open) (ds : List Datum) where
  module _ (enough : 1 ≤ length o.stack) (rest : p ≡ with_stack (drop 1 o.stack) o) (taken : ds ≡ reverse (take 1 o.stack)) where
    redirects_is : (s : State) → leaving serving seat place leave.Redirect s o ≡ On (then_at p (redirect_asked place (text_at 0 ds) s) (λ t s1. Over (Ended (redirects t) s1)))
    redirects_is s =
        popped_all_is 1 o (λ xs q. On (over_of q (redirect_mean place (text_at 0 xs) s))) enough
        ∙ ap (λ xs. On (over_of (with_stack (drop 1 o.stack) o) (redirect_mean place (text_at 0 xs) s))) (sym taken)
        ∙ ap (λ q. On (over_of q (redirect_mean place (text_at 0 ds) s))) (sym rest)
        ∙ ap (λ d. On (over_of p d)) (redirect_is place (text_at 0 ds) s)
        ∙ ap On (one_part p (redirect_asked place (text_at 0 ds) s) (λ t s1. Ended (redirects t) s1))

    module _ {W : Type 0} {reached : W → Origin → W → State → Type 0} {replies : W → List Answer} where
      pub redirected : (old mid : W) (t : List ℕ) → Doing reached replies (λ x. x) (λ place. redirect_asked place (text_at 0 ds)) old mid (Ok t)
          → Acted reached replies (λ s. leaving serving seat place leave.Redirect s o) old mid p (flows.Over (ends.Redirect t))
      redirected old mid t does =
          acted_behind place (λ s. leaving serving seat place leave.Redirect s o) (λ s. On (Over (Ended (redirects t) s))) old mid mid t p (flows.Over (ends.Redirect t))
          (λ s s1 e. redirects_is s ∙ ap (λ w. On (then_at p w (λ t s1. Over (Ended (redirects t) s1)))) e) does (acted_redirect (λ s. On (Over (Ended (redirects t) s))) mid p t (λ s. refl))

      pub redirect_failed : (old mid new : W) (failed : Failure RunFault) (o2 : Open) (flow : Flow) → Doing reached replies (λ (x : List ℕ). x) (λ place. redirect_asked place (text_at 0 ds)) old mid (Err failed)
          → Acted reached replies (failing place p failed) mid new o2 flow → (failed ≡ failure.NoMemory → (flow ≡ flows.Over ends.NoMemory) × (new ≡ mid))
          → Acted reached replies (λ s. leaving serving seat place leave.Redirect s o) old new o2 flow
      redirect_failed old mid new failed o2 flow does acted short =
          acted_as (λ s. leaving serving seat place leave.Redirect s o) (λ s. On (then_at p (redirect_asked place (text_at 0 ds) s) (λ t s1. Over (Ended (redirects t) s1)))) old new o2 flow redirects_is
          (fell_at place p (λ t s1. Over (Ended (redirects t) s1)) old mid new failed o2 flow (λ t s. same s) does acted short)

  module _ (params : ℕ) (enough : address_with params ≤ length o.stack) (rest : p ≡ with_stack (drop (address_with params) o.stack) o) (taken : ds ≡ reverse (take (address_with params) o.stack)) where
    forwards_is : (s : State) → leaving serving seat place (leave.Forward params) s o
        ≡ On (then_at p (forward_asked serving o.left place (page_run_of seat) (text_at 0 ds) (params_in (behind_first ds)) s) (λ g s1. over_of p (leaves_for g s1)))
    forwards_is s =
        popped_all_is (address_with params) o (λ xs q. On (over_of q (forward_mean (served_of serving) (levels o.left) place (page_run_of seat) (text_at 0 xs) (params_in (behind_first xs)) s))) enough
        ∙ ap (λ xs. On (over_of (with_stack (drop (address_with params) o.stack) o) (forward_mean (served_of serving) (levels o.left) place (page_run_of seat) (text_at 0 xs) (params_in (behind_first xs)) s))) (sym taken)
        ∙ ap (λ q. On (over_of q (forward_mean (served_of serving) (levels o.left) place (page_run_of seat) (text_at 0 ds) (params_in (behind_first ds)) s))) (sym rest)
        ∙ ap (λ d. On (over_of p d)) (forward_is serving o.left place (page_run_of seat) (text_at 0 ds) (params_in (behind_first ds)) s)
        ∙ ap On (one_part p (forward_asked serving o.left place (page_run_of seat) (text_at 0 ds) (params_in (behind_first ds)) s) leaves_for)

    module _ {W : Type 0} {reached : W → Origin → W → State → Type 0} {replies : W → List Answer} where
      pub forwarded : (old mid new : W) (f : machine_forward.Forward)
          → Doing reached replies goal_of (λ place. forward_asked serving o.left place (page_run_of seat) (text_at 0 ds) (params_in (behind_first ds))) old mid (Ok f)
          → Changes reached (λ s. in_writer (cleared s.writer) s) mid new → replies new ≡ replies mid
          → Acted reached replies (λ s. leaving serving seat place (leave.Forward params) s o) old new p (flows.Over (ends.Forward f.path f.params f.left))
      forwarded old mid new f does clears same =
          acted_behind place (λ s. leaving serving seat place (leave.Forward params) s o) (λ s. On (over_of p (leaves_for (goal_of f) s))) old mid new f p (flows.Over (ends.Forward f.path f.params f.left))
          (λ s s1 e. forwards_is s ∙ ap (λ w. On (then_at p w (λ g s1. over_of p (leaves_for g s1)))) e) does
          (acted_forward (λ s. On (over_of p (leaves_for (goal_of f) s))) (λ s. in_writer (cleared s.writer) s) mid new p f.path f.params f.left (λ a s. refl) (λ s. refl) clears same)

      pub forward_failed : (old mid new : W) (failed : Failure RunFault) (o2 : Open) (flow : Flow)
          → Doing reached replies goal_of (λ place. forward_asked serving o.left place (page_run_of seat) (text_at 0 ds) (params_in (behind_first ds))) old mid (Err failed)
          → Acted reached replies (failing place p failed) mid new o2 flow → (failed ≡ failure.NoMemory → (flow ≡ flows.Over ends.NoMemory) × (new ≡ mid))
          → Acted reached replies (λ s. leaving serving seat place (leave.Forward params) s o) old new o2 flow
      forward_failed old mid new failed o2 flow does acted short =
          acted_as (λ s. leaving serving seat place (leave.Forward params) s o)
          (λ s. On (then_at p (forward_asked serving o.left place (page_run_of seat) (text_at 0 ds) (params_in (behind_first ds)) s) (λ g s1. over_of p (leaves_for g s1)))) old new o2 flow forwards_is
          (fell_at place p (λ g s1. over_of p (leaves_for g s1)) old mid new failed o2 flow (λ g s. quiet s (in_writer (cleared s.writer) s) refl refl refl) does acted short)

-- an end that is this one
pub leave_as : {W : Type 0} {reached : W → Origin → W → State → Type 0} {replies : W → List Answer} {serves : W → Serving → Type 0} (seat : Seat) (place : Place) (o : Open) (how this : Leave) (old new : W) (o2 : Open) (flow : Flow)
    → how ≡ this → ((serving : Serving) → serves old serving → Acted reached replies (λ s. leaving serving seat place this s o) old new o2 flow)
    → ActedFor reached replies serves (λ serving s. leaving serving seat place how s o) old new o2 flow
leave_as {reached = reached} {replies = replies} {serves = serves} seat place o how this old new o2 flow e acted =
    subst (λ x. ActedFor reached replies serves (λ serving s. leaving serving seat place x s o) old new o2 flow) (sym e) (record { for = acted })
