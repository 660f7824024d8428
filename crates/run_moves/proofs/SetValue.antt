-- A property that is set to the value on top, whose faults stand at a place of their own.
use Rattle.std.proofs.Common.{◌≡◌, ◌+◌, ℕ, List, [], ◌∷◌, ◌++◌, Some, Result, Ok, Err, refl, sym, ap, ◌∙◌}
use Rattle.std.specs.Prelude.{codes}
use Rattle.http_in.specs.declared.params.Param.{Param}
use Rattle.page_code.specs.declared.instr.Instr.TheVariants as instr
use Rattle.page_code.specs.declared.op.Op.TheVariants as op
use Rattle.page_code.specs.declared.operands.PropertyMode.TheVariants as mode
use Rattle.page_meaning.specs.Attributes.{coerced}
use Rattle.page_meaning.specs.Beans.{filled, found_set, like, one_by, property_of, set_property_mean, written_back}
use Rattle.page_meaning.specs.Growth.{state_of, Grows}
use Rattle.page_meaning.specs.Page.{one}
use Rattle.page_meaning.specs.Request.{first_values}
use Rattle.page_meaning.specs.State.{State}
use Rattle.page_meaning.specs.Variables.{look_up}
use Rattle.page_meaning.specs.Went.{Did, Went, Well, Raised, Ended, Awaits, then_do, result_of}
use Rattle.page_table.specs.Act.{act, with_stack}
use Rattle.page_table.specs.Landing.{Config, Running, land, then_at}
use Rattle.page_table.specs.Move.{Move, On, popped_onto}
use Rattle.page_table.specs.Open.{Open}
use Rattle.page_table.specs.Operations.{leaving_none, property_set}
use Rattle.page_table.specs.Program.{Serving}
use Rattle.page_table.specs.Runs.{config_state}
use Rattle.page_table.specs.Seat.{Seat, page_run_of}
use Rattle.pg_text.specs.Failure.{AnswersAs}
use Rattle.pg_text.specs.declared.failure.Failure.{Failure}
use Rattle.pg_text.specs.declared.failure.Failure.TheVariants as failure
use Rattle.pg_text.specs.declared.place.Place.{Place}
use Rattle.pg_value.proofs.Inverses.{entries_of-entry_list}
use Rattle.pg_value.specs.Attrs.{entry_at, with_entry}
use Rattle.pg_value.specs.Datum.{Datum, null, truth, number, text, list, rec, entry_list}
use Rattle.pg_value.specs.Value.{datum_of}
use Rattle.pg_value.specs.declared.fault.RunFault.{RunFault}
use Rattle.pg_value.specs.declared.scope.Scope.{Scope}
use Rattle.pg_value.specs.declared.value.Value.{Value}
use Rattle.run_moves.proofs.Acts.{acted_as, acted_behind, then_at_grows}
use Rattle.run_moves.proofs.Behind.{fell_at, well_at}
use Rattle.run_moves.specs.Acted.{Acted}
use Rattle.run_moves.specs.Landing.{failing}
use Rattle.run_moves.specs.declared.flow.End.TheVariants as ends
use Rattle.run_moves.specs.declared.flow.Flow.{Flow}
use Rattle.run_moves.specs.declared.flow.Flow.TheVariants as flows
use Rattle.run_parts.proofs.PropertySets.{then_same, written_adds}
use Rattle.run_parts.specs.Properties.{found_property, property_in, put_back}
use Rattle.run_values.specs.Properties.{Found, found_of}
use Rattle.run_values.specs.declared.properties.FoundProperty as machine_found
use Rattle.page_meaning.proofs.Growing.{both, same}
use Rattle.run_world.proofs.Adds.{result}
use Rattle.run_world.proofs.Parts.{result_doing}
use Rattle.run_world.specs.Origin.{Origin}
use Rattle.run_world.specs.Part.{Doing}
use Rattle.site_words.specs.Law.{Answer}

-- parts one after the other
then_then : {A B C : Type 0} (w : Went A) (f : A → State → Went B) (g : B → State → Went C) → then_do (then_do w f) g ≡ then_do w (λ a s. then_do (f a s) g)
then_then (Well a s) f g = refl
then_then (Raised fault place s) f g = refl
then_then (Ended leaving s) f g = refl
then_then (Awaits step s) f g = refl

-- where a run goes on behind a part and one behind it
parts_at : {A : Type 0} (p : Open) (w : Went A) (go : A → State → Did) (next : List Datum → State → Config)
    → then_at p (leaving_none (then_do w go)) next ≡ then_at p w (λ a s. then_at p (leaving_none (go a s)) next)
parts_at p (Well a s) go next = refl
parts_at p (Raised fault place s) go next = refl
parts_at p (Ended leaving s) go next = refl
parts_at p (Awaits step s) go next = refl

last_at : (p : Open) (w : Did) (next : List Datum → State → Config) → then_at p (leaving_none w) next ≡ then_at p w (λ u s. next [] s)
last_at p (Well u s) next = refl
last_at p (Raised fault place s) next = refl
last_at p (Ended leaving s) next = refl
last_at p (Awaits step s) next = refl

at_same : {A : Type 0} (p : Open) (w : Went A) (f g : A → State → Config) → ((a : A) (s : State) → f a s ≡ g a s) → then_at p w f ≡ then_at p w g
at_same p (Well a s) f g e = e a s
at_same p (Raised fault place s) f g e = refl
at_same p (Ended leaving s) f g e = refl
at_same p (Awaits step s) f g e = refl

module _ (place value_place : Place) (name property : List ℕ) (d : Datum) where
  -- the property of the record that was found takes the new value
  abbrev replaces : Found → State → Did
  replaces f s = then_do (result_of value_place (coerced (like f.old) d) s) (λ new s1. put_back place f property new name s1)

  set_in : (params : List Param) (sc : Scope) (q : Datum) (s : State)
      → found_set place value_place name (one property property) ((codes "value", d) ∷ []) params sc q s ≡ then_do (property_in place property sc q s) replaces
  set_in params sc (rec es) s =
      ap (λ x. then_do (then_do (result_of place (property_of property (rec x)) s)
      (λ old s1. one_by place value_place (entry_list es) property old (Some d) (filled (entry_at property (first_values params))) s1)) (λ changed s1. written_back place sc name changed s1))
      (entries_of-entry_list es)
      ∙ go (property_of property (rec es))
    where
      sets : (old : Datum) (r : Result Datum RunFault)
          → then_do (then_do (result_of value_place r s) (λ new s1. Well (Some (with_entry (entry_list es) property new)) s1)) (λ changed s1. written_back place sc name changed s1)
          ≡ then_do (result_of value_place r s) (λ new s1. put_back place (record { scope = sc; entries = entry_list es; old = old }) property new name s1)
      sets old (Ok new) = refl
      sets old (Err f) = refl

      go : (r : Result Datum RunFault)
          → then_do (then_do (result_of place r s) (λ old s1. one_by place value_place (entry_list es) property old (Some d) (filled (entry_at property (first_values params))) s1)) (λ changed s1. written_back place sc name changed s1)
          ≡ then_do (then_do {B = Found} (result_of place r s) (λ old s1. Well (record { scope = sc; entries = entry_list es; old = old }) s1)) replaces
      go (Ok old) = sets old (coerced (like old) d)
      go (Err f) = refl
  set_in params sc null s = refl
  set_in params sc (truth b) s = refl
  set_in params sc (number n) s = refl
  set_in params sc (text t) s = refl
  set_in params sc (list is) s = refl

  set_is : (params : List Param) (s : State)
      → set_property_mean place value_place name (one property property) ((codes "value", d) ∷ []) params s ≡ then_do (found_property place name property s) replaces
  set_is params s =
      then_same (look_up place name s) (λ q s1. found_set place value_place name (one property property) ((codes "value", d) ∷ []) params q.0 q.1 s1)
      (λ q s1. then_do (property_in place property q.0 q.1 s1) replaces) (λ q t. set_in params q.0 q.1 t)
      ∙ sym (then_then (look_up place name s) (λ q s1. property_in place property q.0 q.1 s1) replaces)

  module _ (serving : Serving) (seat : Seat) (pc : ℕ) (o : Open) (stack : List Datum) (is : o.stack ≡ d ∷ stack) where
    abbrev p : Open
    p = with_stack stack o

    abbrev Sets : State → Move
    Sets s = act serving seat place pc s o (instr.Op (op.SetProperty name (mode.Value property value_place)))

    abbrev landed : List Datum → State → Config
    landed ds s = Running (pc + 1) s (with_stack (ds ++ stack) p)

    abbrev behind : Unit {0} → State → Config
    behind u s = Running (pc + 1) s p

    abbrev puts : Found → Datum → State → Config
    puts f new s = then_at p (put_back place f property new name s) behind

    abbrev finds : Found → State → Config
    finds f s = then_at p (result_of value_place (coerced (like f.old) d) s) (puts f)

    puts_are : (f : Found) (s : State) → then_at p (leaving_none (replaces f s)) landed ≡ finds f s
    puts_are f s =
        parts_at p (result_of value_place (coerced (like f.old) d) s) (λ new s1. put_back place f property new name s1) landed
        ∙ at_same p (result_of value_place (coerced (like f.old) d) s) (λ new s1. then_at p (leaving_none (put_back place f property new name s1)) landed) (puts f)
        (λ new s1. last_at p (put_back place f property new name s1) landed)

    -- an operation that leaves nothing, in its three parts
    sets_is : (s : State) → Sets s ≡ On (then_at p (found_property place name property s) finds)
    sets_is s =
        ap (λ xs. popped_onto 1 o xs [] (λ ds q. On (land (pc + 1) (λ made. made ++ q.stack) q (leaving_none (property_set place name (mode.Value property value_place) (page_run_of seat).params ds s))))) is
        ∙ ap (λ w. On (then_at p (leaving_none w) landed)) (set_is (page_run_of seat).params s)
        ∙ ap On
        (parts_at p (found_property place name property s) replaces landed
        ∙ at_same p (found_property place name property s) (λ f s1. then_at p (leaving_none (replaces f s1)) landed) finds (λ f s1. puts_are f s1))

    puts_adds : (f : Found) (new : Datum) (s : State) → Grows s (config_state (puts f new s))
    puts_adds f new s =
        both s (state_of (put_back place f property new name s)) (config_state (puts f new s)) (written_adds place f.scope (with_entry f.entries property new) name s)
        (then_at_grows p (put_back place f property new name s) behind (λ u t. same t))

    finds_adds : (f : Found) (s : State) → Grows s (config_state (finds f s))
    finds_adds f s =
        let w = result_of value_place (coerced (like f.old) d) s in
        both s (state_of w) (config_state (finds f s)) (result value_place (coerced (like f.old) d) s) (then_at_grows p w (puts f) (puts_adds f))

    module _ {W : Type 0} {reached : W → Origin → W → State → Type 0} {replies : W → List Answer} where
      -- no property was found
      pub unfound : (old mid new : W) (failed : Failure RunFault) (o2 : Open) (flow : Flow) → Doing reached replies found_of (λ place. found_property place name property) old mid (Err failed)
          → Acted reached replies (failing place p failed) mid new o2 flow → (failed ≡ failure.NoMemory → (flow ≡ flows.Over ends.NoMemory) × (new ≡ mid)) → Acted reached replies Sets old new o2 flow
      unfound old mid new failed o2 flow does acted short =
          acted_as Sets (λ s. On (then_at p (found_property place name property s) finds)) old new o2 flow sets_is
          (fell_at {view = found_of} place p finds old mid new failed o2 flow finds_adds does acted short)

      -- behind the property that was found
      found_at : (old mid new : W) (f : machine_found.FoundProperty) (o2 : Open) (flow : Flow) → Doing reached replies found_of (λ place. found_property place name property) old mid (Ok f)
          → Acted reached replies (λ s. On (finds (found_of f) s)) mid new o2 flow → Acted reached replies Sets old new o2 flow
      found_at old mid new f o2 flow does acted =
          acted_behind {view = found_of} place Sets (λ s. On (finds (found_of f) s)) old mid new f o2 flow (λ s t e. sets_is s ∙ ap (λ w. On (then_at p w finds)) e) does acted

      -- the value isn't of the old one's kind: the fault stands at the value's place
      pub unlike : (old mid new : W) (f : machine_found.FoundProperty) (failed : Failure RunFault) (o2 : Open) (flow : Flow) → Doing reached replies found_of (λ place. found_property place name property) old mid (Ok f)
          → AnswersAs datum_of (coerced (like (datum_of f.old)) d) (Err failed) → Acted reached replies (failing value_place p failed) mid new o2 flow
          → (failed ≡ failure.NoMemory → (flow ≡ flows.Over ends.NoMemory) × (new ≡ mid)) → Acted reached replies Sets old new o2 flow
      unlike old mid new f failed o2 flow does answers acted short =
          found_at old mid new f o2 flow does
          (fell_at {view = datum_of} value_place p (puts (found_of f)) mid mid new failed o2 flow (puts_adds (found_of f)) (result_doing mid (coerced (like (datum_of f.old)) d) (Err failed) answers) acted short)

      -- behind the new value
      made_at : (old mid new : W) (f : machine_found.FoundProperty) (v : Value) (o2 : Open) (flow : Flow) → Doing reached replies found_of (λ place. found_property place name property) old mid (Ok f)
          → coerced (like (datum_of f.old)) d ≡ Ok (datum_of v) → Acted reached replies (λ s. On (puts (found_of f) (datum_of v) s)) mid new o2 flow → Acted reached replies Sets old new o2 flow
      made_at old mid new f v o2 flow does made acted =
          found_at old mid new f o2 flow does
          (acted_behind {view = datum_of} value_place (λ s. On (finds (found_of f) s)) (λ s. On (puts (found_of f) (datum_of v) s)) mid mid new v o2 flow (λ s t e. ap (λ w. On (then_at p w (puts (found_of f)))) e)
          (result_doing mid (coerced (like (datum_of f.old)) d) (Ok v) made) acted)

      pub unwritten : (old mid last new : W) (f : machine_found.FoundProperty) (v : Value) (failed : Failure RunFault) (o2 : Open) (flow : Flow)
          → Doing reached replies found_of (λ place. found_property place name property) old mid (Ok f) → coerced (like (datum_of f.old)) d ≡ Ok (datum_of v)
          → Doing reached replies (λ (u : Unit {0}). u) (λ place. put_back place (found_of f) property (datum_of v) name) mid last (Err failed) → Acted reached replies (failing place p failed) last new o2 flow
          → (failed ≡ failure.NoMemory → (flow ≡ flows.Over ends.NoMemory) × (new ≡ last)) → Acted reached replies Sets old new o2 flow
      unwritten old mid last new f v failed o2 flow does made puts_back acted short =
          made_at old mid new f v o2 flow does made (fell_at {view = λ (u : Unit {0}). u} place p behind mid last new failed o2 flow (λ u t. same t) puts_back acted short)

      pub value_written : (old mid new : W) (f : machine_found.FoundProperty) (v : Value) → Doing reached replies found_of (λ place. found_property place name property) old mid (Ok f)
          → coerced (like (datum_of f.old)) d ≡ Ok (datum_of v) → Doing reached replies (λ (u : Unit {0}). u) (λ place. put_back place (found_of f) property (datum_of v) name) mid new (Ok tt)
          → Acted reached replies Sets old new p (flows.Go (pc + 1))
      value_written old mid new f v does made puts_back =
          made_at old mid new f v p (flows.Go (pc + 1)) does made (well_at {view = λ (u : Unit {0}). u} place p behind mid new tt p (pc + 1) (λ t. refl) puts_back)
