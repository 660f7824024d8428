-- The beginning of a loop, and of its rounds.
use Rattle.std.proofs.Common.{◌≡◌, ◌≤◌, ◌+◌, ℕ, Bool, true, false, List, [], ◌∷◌, length, Option, Some, None, Result, Ok, Err, refl, sym, ap, ◌∙◌, subst, nat_lt, append-nil}
use Rattle.std.specs.Prelude.{IsErrAnd, drop, if◌then◌else◌, reverse, take}
use Rattle.jstl_functions.specs.Functions.{and_then, measured}
use Rattle.page_code.specs.declared.operands.LoopKind.{LoopKind}
use Rattle.run_moves.specs.Acted.{Acted}
use Rattle.run_world.specs.Origin.{Origin}
use Rattle.run_world.specs.Part.{given, Doing, Changes}
use Rattle.run_moves.specs.Landing.{failing}
use Rattle.run_moves.specs.Rounds.{loop_answer}
use Rattle.run_values.specs.Rounds.{round_at}
use Rattle.run_moves.specs.declared.flow.End.TheVariants as ends
use Rattle.run_moves.specs.declared.flow.Flow.{Flow}
use Rattle.run_moves.specs.declared.flow.Flow.TheVariants as flows
use Rattle.run_values.specs.declared.rounds.Mark.{Mark}
use Rattle.run_moves.proofs.Acts.{acted_as, acted_changed}
use Rattle.page_meaning.proofs.Growing.{both, quiet, same}
use Rattle.run_world.proofs.Adds.{Adds, result, thens, visit_adds}
use Rattle.run_moves.proofs.Behind.{fell_at, well_at, well_short}
use Rattle.run_moves.proofs.Landings.{popped_all_is}
use Rattle.run_world.proofs.Parts.{as_doing, changed_doing, fail_doing, result_doing, short_at, then_doing, well_doing}
use Rattle.run_parts.proofs.PropertySets.{answered_doing, answered_failed}
use Rattle.page_meaning.specs.Attributes.{Values, table_of}
use Rattle.page_meaning.specs.Growth.{Grows}
use Rattle.page_meaning.specs.Loops.{round_begun, set_status, with_named, without_named}
use Rattle.page_meaning.specs.Rounds.{Round, status_record}
use Rattle.page_meaning.specs.State.{State}
use Rattle.page_meaning.specs.Variables.{set_held, with_page_variable}
use Rattle.page_meaning.specs.Went.{Did, Well, Raised, then_do, result_of}
use Rattle.page_meaning.specs.Work.{visit, visit_limit}
use Rattle.page_table.specs.Landing.{Running, then_at}
use Rattle.page_table.specs.LoopMoves.{loop_next, loop_opened, loop_rounds, with_loop}
use Rattle.page_table.specs.Move.{Move, On, popped_all}
use Rattle.page_table.specs.Open.{Loop, Open}
use Rattle.pg_text.specs.Failure.{AnswersAs}
use Rattle.pg_text.specs.declared.failure.Failure.{Failure}
use Rattle.pg_text.specs.declared.failure.Failure.TheVariants as failure
use Rattle.pg_text.specs.declared.place.Place.{Place}
use Rattle.pg_value.specs.Datum.{Datum}
use Rattle.pg_value.specs.Value.{datum_of}
use Rattle.pg_value.specs.declared.fault.RunFault.{RunFault}
use Rattle.pg_value.specs.declared.fault.RunFault.TheVariants as fault
use Rattle.pg_value.specs.declared.value.Value.{Value}
use Rattle.scopes.specs.declared.held_scope.HeldScope.TheVariants as held
use Rattle.site_words.specs.Law.{Answer}

-- what named variables and the status of a round add
named_adds : (name : Option (List ℕ)) (d : Datum) (s : State) → Grows s (with_named name d s)
named_adds None d s = same s
named_adds (Some name) d s = quiet s (with_page_variable name d s) refl refl refl

pub status_adds : (place : Place) (name : Option (List ℕ)) (d : Datum) → Adds (set_status place name d)
status_adds place None d s = same s
status_adds place (Some name) d s =
    thens (result_of place (measured d)) (λ m s1. Well tt (with_page_variable name m s1)) (result place (measured d)) (λ m t. quiet t (with_page_variable name m t) refl refl refl) s

-- the rounds that values open, and the loop
opened_is : (place : Place) (kind : LoopKind) (vs : Values) (to : ℕ) (s : State) (o : Open)
    → loop_opened place kind vs to s o ≡ then_at o (result_of place (loop_answer kind vs) s) (λ loop s1. Running to s1 (with_loop loop o))
opened_is place kind vs to s o = go (loop_rounds kind.over vs)
  where
    made : List Round → Loop
    made rounds = record { variable = kind.variable; status = kind.status; values = vs; rounds = rounds }

    go : (r : Result (List Round) RunFault)
        → then_at o (result_of place r s) (λ rounds s1. Running to s1 (with_loop (record { variable = kind.variable; status = kind.status; values = vs; rounds = rounds }) o))
        ≡ then_at o (result_of place (and_then r (λ rounds. Ok (record { variable = kind.variable; status = kind.status; values = vs; rounds = rounds }))) s) (λ loop s1. Running to s1 (with_loop loop o))
    go (Ok rounds) = refl
    go (Err f) = refl

-- the first of two lists that are one
abbrev first_or : {A : Type 0} → A → List A → A
first_or d [] = d
first_or d (x ∷ xs) = x

pub same_first : {A : Type 0} (x y : A) (xs ys : List A) → x ∷ xs ≡ y ∷ ys → x ≡ y
same_first x y xs ys e = ap (first_or x) e

abbrev visit_if : Bool → Place → State → Did
visit_if b place s = if b then Well tt (record s { visits = s.visits + 1 }) else Raised fault.TooMuchWork place s

-- a variable of the frame, where it has a name
abbrev pub Naming : Option (List ℕ) → Datum → Place → State → Did
Naming name d place s = Well tt (with_named name d s)

pub naming_adds : (place : Place) (name : Option (List ℕ)) (d : Datum) → Adds (Naming name d place)
naming_adds place name d s = named_adds name d s

module _ (variable status : Option (List ℕ)) (vs : Values) (r : Round) where
  abbrev behind_visit : Place → Unit {0} → State → Did
  behind_visit place u s1 = then_do (result_of place r.item s1) (λ item s2. set_status place status (status_record vs r item) (with_named variable item s2))

  abbrev behind_item : Place → Datum → State → Did
  behind_item place d s2 = set_status place status (status_record vs r d) (with_named variable d s2)

  item_adds : (place : Place) (d : Datum) → Adds (behind_item place d)
  item_adds place d s = both s (with_named variable d s) _ (named_adds variable d s) (status_adds place status (status_record vs r d) (with_named variable d s))

  pub round_adds : (place : Place) → Adds (λ s. round_begun place variable status vs r s)
  round_adds place = thens (visit place) (behind_visit place) (visit_adds place) (λ u. thens (result_of place r.item) (behind_item place) (result place r.item) (λ d. item_adds place d))

module _ (place : Place) (kind : LoopKind) (pc : ℕ) (o : Open) where
  abbrev left : Open
  left = record o { stack = drop (length kind.names) o.stack }

  abbrev values : Values
  values = table_of kind.names (reverse (take (length kind.names) o.stack))

  abbrev pub Starts : State → Move
  Starts s = popped_all (length kind.names) o (λ ds p. On (loop_opened place kind (table_of kind.names ds) (pc + 1) s p))

  starts_is : length kind.names ≤ length o.stack → (s : State) → Starts s ≡ On (then_at left (result_of place (loop_answer kind values) s) (λ loop s1. Running (pc + 1) s1 (with_loop loop left)))
  starts_is h s = popped_all_is (length kind.names) o (λ ds p. On (loop_opened place kind (table_of kind.names ds) (pc + 1) s p)) h ∙ ap On (opened_is place kind values (pc + 1) s left)

module _ (place : Place) (again behind : ℕ) (o : Open) (loop : Loop) (outer : List Loop) where
  abbrev pub Nexts : State → Move
  Nexts s = loop_next place o.loops again behind s o

  abbrev without_both : State → State
  without_both s = without_named loop.status (without_named loop.variable s)

  nexts_is : o.loops ≡ loop ∷ outer → (r : Round) (rest : List Round) → loop.rounds ≡ r ∷ rest → (s : State)
      → Nexts s ≡ On (then_at o (round_begun place loop.variable loop.status loop.values r s) (λ u s1. Running again s1 (record o { loops = record loop { rounds = rest } ∷ outer })))
  nexts_is is r rest e s =
      ap (λ ls. loop_next place ls again behind s o) is ∙ ap (λ rs. On (Rattle.page_table.specs.LoopMoves.next_round place loop outer rs again behind s o)) e

module _ {W : Type 0} {reached : W → Origin → W → State → Type 0} {replies : W → List Answer} where
  -- a fault behind a change that is none
  pub raised_doing : {A B : Type 0} {view : A → B} (f : RunFault) (old new : W) → Changes reached (λ s. s) old new → replies new ≡ replies old
      → Doing reached replies view (λ place. Raised f place) old new (Err (failure.Fault f))
  raised_doing f old new changes kept = record {
    by = λ first origin s stands. record { got = []; replies = kept ∙ sym (append-nil (replies old)); after = s; stood = changes.by first origin s stands; went = λ place future. refl };
  }

  module _ (visits : W → ℕ) (tells : (first w : W) (origin : Origin) (s : State) → reached first origin w s → visits w ≡ s.visits) where
    pub visit_counted : (old new : W) → nat_lt (visits old) visit_limit ≡ true → Changes reached (λ s. record s { visits = s.visits + 1 }) old new → replies new ≡ replies old
        → Doing reached replies (λ (u : Unit {0}). u) (λ place. visit place) old new (Ok tt)
    visit_counted old new e changes kept = as_doing old new (Ok tt)
        (λ first origin s stands place a. ap (λ b. visit_if b place (given a s)) (ap (λ n. nat_lt n visit_limit) (sym (tells first old origin s stands)) ∙ e))
        (changed_doing (λ s. record s { visits = s.visits + 1 }) old new (λ a s. refl) changes kept tt)

    pub visit_refused : (old new : W) → nat_lt (visits old) visit_limit ≡ false → Changes reached (λ s. s) old new → replies new ≡ replies old
        → Doing reached replies (λ (u : Unit {0}). u) (λ place. visit place) old new (Err (failure.Fault fault.TooMuchWork))
    visit_refused old new e changes kept = as_doing old new (Err (failure.Fault fault.TooMuchWork))
        (λ first origin s stands place a. ap (λ b. visit_if b place (given a s)) (ap (λ n. nat_lt n visit_limit) (sym (tells first old origin s stands)) ∙ e))
        (raised_doing fault.TooMuchWork old new changes kept)

  pub named_set : (old new : W) (name : Option (List ℕ)) (n : List ℕ) (d : Datum) (result : Result Unit (Failure RunFault)) → name ≡ Some n
      → Doing reached replies (λ (u : Unit {0}). u) (λ place. set_held place held.Page n d) old new result → Doing reached replies (λ (u : Unit {0}). u) (Naming name d) old new result
  named_set old new name n d result e does = as_doing old new result (λ first origin s stands place a. ap (λ x. Well tt (with_named x d (given a s))) e) does

  pub named_none : (w : W) (name : Option (List ℕ)) (d : Datum) → name ≡ None → Doing reached replies (λ (u : Unit {0}). u) (Naming name d) w w (Ok tt)
  named_none w name d e = as_doing w w (Ok tt) (λ first origin s stands place a. ap (λ x. Well tt (with_named x d (given a s))) e) (well_doing w tt)

  -- the status of a round, where it has a name
  pub status_none : (w : W) (name : Option (List ℕ)) (d : Datum) → name ≡ None → Doing reached replies (λ (u : Unit {0}). u) (λ place. set_status place name d) w w (Ok tt)
  status_none w name d e = as_doing w w (Ok tt) (λ first origin s stands place a. ap (λ x. set_status place x d (given a s)) e) (well_doing w tt)

  pub status_set : (old new : W) (name : Option (List ℕ)) (n : List ℕ) (d : Datum) (v : Value) (result : Result Unit (Failure RunFault)) → name ≡ Some n → measured d ≡ Ok (datum_of v)
      → Doing reached replies (λ (u : Unit {0}). u) (λ place. set_held place held.Page n (datum_of v)) old new result → Doing reached replies (λ (u : Unit {0}). u) (λ place. set_status place name d) old new result
  status_set old new name n d v result e is does = as_doing old new result (λ first origin s stands place a. ap (λ x. set_status place x d (given a s)) e)
      (answered_doing datum_of (measured d) (λ place m s1. Well tt (with_page_variable n m s1)) old new v result is does)

  pub status_failed : (w : W) (name : Option (List ℕ)) (n : List ℕ) (d : Datum) (f : Failure RunFault) → name ≡ Some n → AnswersAs datum_of (measured d) (Err f)
      → Doing reached replies (λ (u : Unit {0}). u) (λ place. set_status place name d) w w (Err f)
  status_failed w name n d f e answers = as_doing w w (Err f) (λ first origin s stands place a. ap (λ x. set_status place x d (given a s)) e)
      (answered_failed datum_of (measured d) (λ place m s1. Well tt (with_page_variable n m s1)) w f (λ place m t. quiet t (with_page_variable n m t) refl refl refl) answers)

  -- a round begins
  module _ (variable status : Option (List ℕ)) (vs : Values) (r : Round) where
    pub round_unvisited : (old new : W) (e : Failure RunFault) → Doing reached replies (λ (u : Unit {0}). u) (λ place. visit place) old new (Err e)
        → Doing reached replies (λ (u : Unit {0}). u) (λ place. round_begun place variable status vs r) old new (Err e)
    round_unvisited old new e does = fail_doing (behind_visit variable status vs r) old new e (λ place u. thens (result_of place r.item) ((behind_item variable status vs r) place) (result place r.item) (λ d. (item_adds variable status vs r) place d)) does

    pub round_failed : (old new : W) (e : Failure RunFault) → Doing reached replies (λ (u : Unit {0}). u) (λ place. visit place) old new (Ok tt) → AnswersAs datum_of r.item (Err e)
        → Doing reached replies (λ (u : Unit {0}). u) (λ place. round_begun place variable status vs r) old new (Err e)
    round_failed old new e does answers = then_doing (behind_visit variable status vs r) old new new tt (Err e) does (answered_failed datum_of r.item (behind_item variable status vs r) new e (λ place d. (item_adds variable status vs r) place d) answers)

    pub round_unnamed : (old mid new : W) (v : Value) (e : Failure RunFault) → Doing reached replies (λ (u : Unit {0}). u) (λ place. visit place) old mid (Ok tt) → r.item ≡ Ok (datum_of v)
        → Doing reached replies (λ (u : Unit {0}). u) (Naming variable (datum_of v)) mid new (Err e) → Doing reached replies (λ (u : Unit {0}). u) (λ place. round_begun place variable status vs r) old new (Err e)
    round_unnamed old mid new v e does is named =
        then_doing (behind_visit variable status vs r) old mid new tt (Err e) does
        (answered_doing datum_of r.item (behind_item variable status vs r) mid new v (Err e) is
        (fail_doing (λ place u s3. set_status place status (status_record vs r (datum_of v)) s3) mid new e (λ place u. status_adds place status (status_record vs r (datum_of v))) named))

    pub round_well : (old mid last new : W) (v : Value) (mark : Mark) (result : Result Unit (Failure RunFault)) → r.index ≡ mark.index → r.count ≡ mark.count → r.is_last ≡ mark.is_last
        → Doing reached replies (λ (u : Unit {0}). u) (λ place. visit place) old mid (Ok tt) → r.item ≡ Ok (datum_of v) → Doing reached replies (λ (u : Unit {0}). u) (Naming variable (datum_of v)) mid last (Ok tt)
        → Doing reached replies (λ (u : Unit {0}). u) (λ place. set_status place status (status_record vs (round_at mark) (datum_of v))) last new result
        → Doing reached replies (λ (u : Unit {0}). u) (λ place. round_begun place variable status vs r) old new result
    round_well old mid last new v mark result i n l does is named does_status =
        then_doing (behind_visit variable status vs r) old mid new tt result does
        (answered_doing datum_of r.item (behind_item variable status vs r) mid new v result is
        (then_doing (λ place u s3. set_status place status (status_record vs r (datum_of v)) s3) mid last new tt result named
        (subst (λ d. Doing reached replies (λ (u : Unit {0}). u) (λ place. set_status place status d) last new result) same_status does_status)))
      where
        same_status : status_record vs (round_at mark) (datum_of v) ≡ status_record vs r (datum_of v)
        same_status =
            ap (λ x. status_record vs (record { item = Ok Rattle.pg_value.specs.Datum.null; index = x; count = mark.count; is_last = mark.is_last }) (datum_of v)) (sym i)
            ∙ ap (λ x. status_record vs (record { item = Ok Rattle.pg_value.specs.Datum.null; index = r.index; count = x; is_last = mark.is_last }) (datum_of v)) (sym n)
            ∙ ap (λ x. status_record vs (record { item = Ok Rattle.pg_value.specs.Datum.null; index = r.index; count = r.count; is_last = x }) (datum_of v)) (sym l)

    -- where memory ran out after its visit
    pub round_short : (old new : W) (done : Result Unit (Failure RunFault)) → IsErrAnd done (λ f. f ≡ failure.NoMemory) → Doing reached replies (λ (u : Unit {0}). u) (λ place. visit place) old new (Ok tt)
        → Doing reached replies (λ (u : Unit {0}). u) (λ place. round_begun place variable status vs r) old new done
    round_short old new done is does =
        then_doing (behind_visit variable status vs r) old new new tt done does
        (short_at new done is (λ place. thens (result_of place r.item) ((behind_item variable status vs r) place) (result place r.item) (λ d. (item_adds variable status vs r) place d)))

    -- where its status has no name
    pub round_unstated : (old mid new : W) (v : Value) (mark : Mark) (done : Result Unit (Failure RunFault)) → r.index ≡ mark.index → r.count ≡ mark.count → r.is_last ≡ mark.is_last → status ≡ None
        → Doing reached replies (λ (u : Unit {0}). u) (λ place. visit place) old mid (Ok tt) → r.item ≡ Ok (datum_of v) → Doing reached replies (λ (u : Unit {0}). u) (Naming variable (datum_of v)) mid new done
        → Doing reached replies (λ (u : Unit {0}). u) (λ place. round_begun place variable status vs r) old new done
    round_unstated old mid new v mark (Ok u) i n l none does is named = round_well old mid new new v mark (Ok u) i n l does is named (status_none new status (status_record vs (round_at mark) (datum_of v)) none)
    round_unstated old mid new v mark (Err f) i n l none does is named = round_unnamed old mid new v f does is named

  -- a loop begins
  module _ (place : Place) (kind : LoopKind) (pc : ℕ) (o : Open) (h : length kind.names ≤ length o.stack) where
    pub start_well : {A : Type 0} (view : A → Loop) (w : W) (a : A) → loop_answer kind (values place kind pc o) ≡ Ok (view a) → Acted reached replies (Starts place kind pc o) w w (with_loop (view a) (left place kind pc o)) (flows.Go (pc + 1))
    start_well view w a e = acted_as (Starts place kind pc o) (λ s. On (then_at (left place kind pc o) (result_of place (loop_answer kind (values place kind pc o)) s) (λ loop s1. Running (pc + 1) s1 (with_loop loop (left place kind pc o))))) w w (with_loop (view a) (left place kind pc o)) (flows.Go (pc + 1)) (starts_is place kind pc o h)
        (well_at {view = view} place (left place kind pc o) (λ loop s1. Running (pc + 1) s1 (with_loop loop (left place kind pc o))) w w a (with_loop (view a) (left place kind pc o)) (pc + 1) (λ t. refl) (result_doing w (loop_answer kind (values place kind pc o)) (Ok a) e))

    pub start_short : {A : Type 0} (view : A → Loop) (w : W) (a : A) (o2 : Open) → loop_answer kind (values place kind pc o) ≡ Ok (view a) → Acted reached replies (Starts place kind pc o) w w o2 (flows.Over ends.NoMemory)
    start_short view w a o2 e = acted_as (Starts place kind pc o) (λ s. On (then_at (left place kind pc o) (result_of place (loop_answer kind (values place kind pc o)) s) (λ loop s1. Running (pc + 1) s1 (with_loop loop (left place kind pc o))))) w w o2 (flows.Over ends.NoMemory) (starts_is place kind pc o h)
        (well_short {view = view} place (left place kind pc o) (λ loop s1. Running (pc + 1) s1 (with_loop loop (left place kind pc o))) w w a o2 (λ loop t. same t) (result_doing w (loop_answer kind (values place kind pc o)) (Ok a) e))

    pub start_failed : {A : Type 0} (view : A → Loop) (w new : W) (f : Failure RunFault) (o2 : Open) (flow : Flow) → AnswersAs view (loop_answer kind (values place kind pc o)) (Err f) → Acted reached replies (failing place (left place kind pc o) f) w new o2 flow
        → (f ≡ failure.NoMemory → (flow ≡ flows.Over ends.NoMemory) × (new ≡ w)) → Acted reached replies (Starts place kind pc o) w new o2 flow
    start_failed view w new f o2 flow answers acted short =
        acted_as (Starts place kind pc o) (λ s. On (then_at (left place kind pc o) (result_of place (loop_answer kind (values place kind pc o)) s) (λ loop s1. Running (pc + 1) s1 (with_loop loop (left place kind pc o))))) w new o2 flow (starts_is place kind pc o h)
        (fell_at {view = view} place (left place kind pc o) (λ loop s1. Running (pc + 1) s1 (with_loop loop (left place kind pc o))) w w new f o2 flow (λ loop t. same t) (result_doing w (loop_answer kind (values place kind pc o)) (Err f) answers) acted short)

  -- the next round of the innermost loop, or its end
  module _ (place : Place) (again behind : ℕ) (o : Open) (loop : Loop) (outer : List Loop) (is : o.loops ≡ loop ∷ outer) where
    pub next_ended : (old mid new : W) → loop.rounds ≡ [] → Changes reached (λ s. without_named loop.variable s) old mid → replies mid ≡ replies old
        → Changes reached (λ s. without_named loop.status s) mid new → replies new ≡ replies mid → Acted reached replies (Nexts place again behind o loop outer) old new (record o { loops = outer }) (flows.Go behind)
    next_ended old mid new none one kept two held = acted_changed (Nexts place again behind o loop outer) (without_both place again behind o loop outer) old new (record o { loops = outer }) behind blind
        (λ s. ap (λ ls. loop_next place ls again behind s o) is ∙ ap (λ rs. On (Rattle.page_table.specs.LoopMoves.next_round place loop outer rs again behind s o)) none)
        (record { by = λ first origin s stands. two.by first origin (without_named loop.variable s) (one.by first origin s stands) }) (held ∙ kept)
      where
        one_blind : (name : Option (List ℕ)) (a : List Answer) (s : State) → without_named name (given a s) ≡ given a (without_named name s)
        one_blind None a s = refl
        one_blind (Some n) a s = refl

        blind : (a : List Answer) (s : State) → (without_both place again behind o loop outer) (given a s) ≡ given a ((without_both place again behind o loop outer) s)
        blind a s = ap (without_named loop.status) (one_blind loop.variable a s) ∙ one_blind loop.status a (without_named loop.variable s)

    pub next_well : (r : Round) (rest : List Round) (old new : W) → loop.rounds ≡ r ∷ rest
        → Doing reached replies (λ (u : Unit {0}). u) (λ place. round_begun place loop.variable loop.status loop.values r) old new (Ok tt)
        → Acted reached replies (Nexts place again behind o loop outer) old new (record o { loops = record loop { rounds = rest } ∷ outer }) (flows.Go again)
    next_well r rest old new e does =
        acted_as (Nexts place again behind o loop outer) (λ s. On (then_at o (round_begun place loop.variable loop.status loop.values r s) (λ u s1. Running again s1 (record o { loops = record loop { rounds = rest } ∷ outer }))))
        old new (record o { loops = record loop { rounds = rest } ∷ outer }) (flows.Go again) ((nexts_is place again behind o loop outer is) r rest e)
        (well_at {view = λ (u : Unit {0}). u} place o (λ u s1. Running again s1 (record o { loops = record loop { rounds = rest } ∷ outer })) old new tt (record o { loops = record loop { rounds = rest } ∷ outer }) again (λ t. refl)
        does)

    pub next_failed : (r : Round) (rest : List Round) (old mid new : W) (f : Failure RunFault) (o2 : Open) (flow : Flow) → loop.rounds ≡ r ∷ rest
        → Doing reached replies (λ (u : Unit {0}). u) (λ place. round_begun place loop.variable loop.status loop.values r) old mid (Err f)
        → Acted reached replies (failing place o f) mid new o2 flow → (f ≡ failure.NoMemory → (flow ≡ flows.Over ends.NoMemory) × (new ≡ mid)) → Acted reached replies (Nexts place again behind o loop outer) old new o2 flow
    next_failed r rest old mid new f o2 flow e does acted short =
        acted_as (Nexts place again behind o loop outer) (λ s. On (then_at o (round_begun place loop.variable loop.status loop.values r s) (λ u s1. Running again s1 (record o { loops = record loop { rounds = rest } ∷ outer }))))
        old new o2 flow ((nexts_is place again behind o loop outer is) r rest e)
        (fell_at {view = λ (u : Unit {0}). u} place o (λ u s1. Running again s1 (record o { loops = record loop { rounds = rest } ∷ outer })) old mid new f o2 flow (λ u t. same t) does acted short)
