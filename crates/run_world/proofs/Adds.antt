-- Parts of the meaning only add steps and pieces; and how such parts are joined.
use Rattle.std.proofs.Common.{◌+◌, ℕ, Bool, true, false, List, [], ◌∷◌, ◌++◌, length, Option, Some, None, Result, Ok, Err, refl, sym, nat_lt, nat_le, append-nil}
use Rattle.std.specs.Prelude.{if◌then◌else◌}
use Rattle.edges.specs.History.{IsFront}
use Rattle.out_buffer.specs.Writer.{Writer, put, put_limit, flushed_over, front_pieces, pieces_over, piece_of, buffered, written, placed}
use Rattle.pg_text.specs.declared.place.Place.{Place}
use Rattle.pg_value.specs.Datum.{Datum, null, truth, number, text, list, rec}
use Rattle.pg_value.specs.Limits.{is_over}
use Rattle.pg_value.specs.Value.{value_of}
use Rattle.pg_value.specs.declared.fault.RunFault.{RunFault}
use Rattle.pg_value.specs.declared.fault.RunFault.TheVariants as fault
use Rattle.pg_value.specs.declared.scope.Scope.{Scope}
use Rattle.pg_value.specs.declared.scope.Scope.TheVariants as scope
use Rattle.scopes.specs.HeldScope.{held_scope}
use Rattle.scopes.specs.Scopes.{with_variable, without_variable, set_answer}
use Rattle.scopes.specs.declared.held_scope.HeldScope.{HeldScope}
use Rattle.site_words.specs.Law.{Answer}
use Rattle.site_words.specs.declared.words.AppStep.{AppStep}
use Rattle.site_words.specs.declared.words.AppStep.TheVariants as step
use Rattle.page_meaning.specs.Bodies.{put_text}
use Rattle.page_meaning.specs.Expressions.{found_nowhere, variable_or_step}
use Rattle.page_meaning.proofs.Growing.{asks, both, commits, quiet, same}
use Rattle.page_meaning.specs.Growth.{state_of, Grows}
use Rattle.page_meaning.specs.State.{State, in_scopes, in_writer}
use Rattle.site_words.specs.PageSteps.{app, told_value}
use Rattle.page_meaning.specs.Variables.{set_held, set_application, set_in, assign, remove_in, unassign, unassign_all, without_inner, inner_found, look_up_else, look_up}
use Rattle.page_meaning.specs.Went.{Went, Did, Well, Raised, Ended, Awaits, then_do, either, result_of}
use Rattle.page_meaning.specs.Work.{visit_limit, visit, visited, is_spent, answer_from, ask}

-- a part from every state
abbrev pub Adds : {A : Type 0} → (State → Went A) → Type 0
Adds part = (s : State) → Grows s (state_of (part s))

pub well : {A : Type 0} (a : A) → Adds (Well a)
well a s = same s

done : Adds (λ s. let w : Did = Well tt s in w)
done s = same s

pub result : {A : Type 0} (place : Place) (r : Result A RunFault) → Adds (result_of place r)
result place (Ok a) s = same s
result place (Err f) s = same s

pub changed : {A : Type 0} (a : A) (change : State → State) → ((s : State) → Grows s (change s)) → Adds (λ s. Well a (change s))
changed a change h s = h s

pub behind : {A : Type 0} (part : State → Went A) (change : State → State) → ((s : State) → Grows s (change s)) → Adds part → Adds (λ s. part (change s))
behind part change h k s = both s (change s) (state_of (part (change s))) (h s) (k (change s))

pub then_at : {A B : Type 0} (s : State) (w : Went A) (go : A → State → Went B) → Grows s (state_of w) → ((a : A) → Adds (go a)) → Grows s (state_of (then_do w go))
then_at s (Well a t) go h next = both s t (state_of (go a t)) h (next a t)
then_at s (Raised f place t) go h next = h
then_at s (Ended leaving t) go h next = h
then_at s (Awaits step t) go h next = h

-- one part after the other
pub thens : {A B : Type 0} (part : State → Went A) (go : A → State → Went B) → Adds part → ((a : A) → Adds (go a)) → Adds (λ s. then_do (part s) go)
thens part go h next s = then_at s (part s) go (h s) next

pub eithers : {A : Type 0} (b : Bool) (one other : State → Went A) → Adds one → Adds other → Adds (either b one other)
eithers true one other h k s = h s
eithers false one other h k s = k s

pub raised : (A : Type 0) (f : RunFault) (place : Place) → Adds (λ s. let w : Went A = Raised f place s in w)
raised A f place s = same s

-- a visit
pub visit_adds : (place : Place) → Adds (visit place)
visit_adds place s = go (nat_lt s.visits visit_limit)
  where
    go : (b : Bool) → Grows s (state_of (let w : Did = if b then Well tt (record s { visits = s.visits + 1 }) else Raised fault.TooMuchWork place s in w))
    go true = quiet s (record s { visits = s.visits + 1 }) refl refl refl
    go false = same s

pub visited_adds : {A : Type 0} (place : Place) (part : State → Went A) → Adds part → Adds (visited place part)
visited_adds place part h = thens (visit place) (λ u s1. part s1) (visit_adds place) (λ u. h)

-- a step
answer_adds : (x : AppStep) (s : State) (answers : List Answer) → Grows s (state_of (answer_from x answers s))
answer_adds x s [] = same s
answer_adds x s (answer ∷ rest) = asks (app x) s (state_of (answer_from x (answer ∷ rest) s)) refl refl refl

pub ask_adds : (place : Place) (x : AppStep) → Adds (ask place x)
ask_adds place x s = eithers (is_spent s) (Raised fault.AppTooMuch place) (answer_from x s.answers) (raised Answer fault.AppTooMuch place) (λ t. answer_adds x t s.answers) s

-- variables
pub set_held_adds : (place : Place) (sc : HeldScope) (name : List ℕ) (d : Datum) → Adds (set_held place sc name d)
set_held_adds place sc name d s =
    let r = set_answer s.scopes sc name d in
    then_at s (result_of place r s) (λ u s1. Well tt (in_scopes (with_variable s1.scopes sc name d) s1)) (result place r s)
    (λ u t. quiet t (in_scopes (with_variable t.scopes sc name d) t) refl refl refl)

pub set_application_adds : (place : Place) (name : List ℕ) (d : Datum) → Adds (set_application place name d)
set_application_adds place name d =
    eithers (is_over d) (Raised fault.ValueTooLarge place) (λ s1. then_do (ask place (step.Set name (value_of d)) s1) (λ answer s2. Well tt s2))
    (raised Unit fault.ValueTooLarge place) (thens (ask place (step.Set name (value_of d))) (λ answer s2. Well tt s2) (ask_adds place (step.Set name (value_of d))) (λ answer. done))

set_in_adds : (place : Place) (held : Option HeldScope) (name : List ℕ) (d : Datum) → Adds (set_in place held name d)
set_in_adds place (Some sc) name d = set_held_adds place sc name d
set_in_adds place None name d = set_application_adds place name d

pub assign_adds : (place : Place) (sc : Scope) (name : List ℕ) (d : Datum) → Adds (assign place sc name d)
assign_adds place sc name d = set_in_adds place (held_scope sc) name d

remove_in_adds : (place : Place) (held : Option HeldScope) (name : List ℕ) → Adds (remove_in place held name)
remove_in_adds place (Some sc) name s = quiet s (in_scopes (without_variable s.scopes sc name) s) refl refl refl
remove_in_adds place None name s = thens (ask place (step.Remove name)) (λ answer s1. Well tt s1) (ask_adds place (step.Remove name)) (λ answer. done) s

pub unassign_adds : (place : Place) (sc : Scope) (name : List ℕ) → Adds (unassign place sc name)
unassign_adds place sc name = remove_in_adds place (held_scope sc) name

pub unassign_all_adds : (place : Place) (name : List ℕ) → Adds (unassign_all place name)
unassign_all_adds place name =
    behind (unassign place scope.Application name) (λ s. in_scopes (without_inner name s.scopes) s) (λ s. quiet s (in_scopes (without_inner name s.scopes) s) refl refl refl) (unassign_adds place scope.Application name)

look_up_else_adds : (place : Place) (name : List ℕ) (o : Option (Scope × Datum)) → Adds (look_up_else place name o)
look_up_else_adds place name (Some p) s = same s
look_up_else_adds place name None s =
    thens (ask place (step.Get name)) (λ answer s1. Well (scope.Application, told_value answer) s1) (ask_adds place (step.Get name)) (λ answer. let p : Scope × Datum = (scope.Application, told_value answer) in well p) s

pub look_up_adds : (place : Place) (name : List ℕ) → Adds (look_up place name)
look_up_adds place name s = look_up_else_adds place name (inner_found s.scopes name) s

-- what is written
abbrev AddsPieces : List (List ℕ) → Result Writer RunFault → Type 0
AddsPieces pieces (Ok w) = IsFront pieces w.pieces
AddsPieces pieces (Err f) = Unit {0}

pick : {A : Type 0} (P : A → Type 0) (b : Bool) (x y : A) → P x → P y → P (if b then x else y)
pick P true x y p q = p
pick P false x y p q = q

buffered_adds : (size : ℕ) (bytes : List ℕ) (w : Writer) → AddsPieces w.pieces (buffered size bytes w)
buffered_adds size bytes w =
    pick (AddsPieces w.pieces) (nat_le (length bytes) size) (Ok (record w { buffer = bytes })) (if w.autoflush then Ok (flushed_over size bytes w) else Err fault.BufferOverflow)
    ([], sym (append-nil w.pieces))
    (pick (AddsPieces w.pieces) w.autoflush (Ok (flushed_over size bytes w)) (Err fault.BufferOverflow) (front_pieces (pieces_over size (length bytes)) size bytes, refl) tt)

written_adds : (size : Option ℕ) (bytes : List ℕ) (w : Writer) → AddsPieces w.pieces (written size bytes w)
written_adds None bytes w = (piece_of bytes, refl)
written_adds (Some size) bytes w = buffered_adds size (w.buffer ++ bytes) w

placed_adds : (kept : List (List ℕ)) (bytes : List ℕ) (w : Writer) → AddsPieces w.pieces (placed kept bytes w)
placed_adds [] bytes w = written_adds w.size bytes w
placed_adds (body ∷ outer) bytes w = ([], sym (append-nil w.pieces))

put_adds : (bytes : List ℕ) (w : Writer) → AddsPieces w.pieces (put bytes w)
put_adds bytes w =
    let counted = record w { count = w.count + length bytes } in
    pick (AddsPieces w.pieces) (nat_lt put_limit (w.count + length bytes)) (Err fault.OutputTooLong) (placed w.kept bytes counted) tt (placed_adds w.kept bytes counted)

-- a text that was put, or its fault
abbrev put_so : Place → Result Writer RunFault → State → Did
put_so place r s = then_do (result_of place r s) (λ w s1. Well tt (in_writer w s1))

pub put_text_adds : (place : Place) (bytes : List ℕ) → Adds (put_text place bytes)
put_text_adds place bytes s = go (put bytes s.writer) (put_adds bytes s.writer)
  where
    go : (r : Result Writer RunFault) → AddsPieces s.writer.pieces r → Grows s (state_of (put_so place r s))
    go (Ok w) adds = commits s w adds
    go (Err f) adds = same s

-- a variable
pub found_nowhere_adds : (strict : Bool) (place : Place) (d : Datum) → Adds (found_nowhere strict place d)
found_nowhere_adds true place null = raised Datum fault.NotFound place
found_nowhere_adds true place (truth b) = well (truth b)
found_nowhere_adds true place (number n) = well (number n)
found_nowhere_adds true place (text t) = well (text t)
found_nowhere_adds true place (list is) = well (list is)
found_nowhere_adds true place (rec es) = well (rec es)
found_nowhere_adds false place d = well d

pub variable_adds : (strict : Bool) (place : Place) (n : List ℕ) (o : Option Datum) → Adds (variable_or_step strict place n o)
variable_adds strict place n (Some d) s = same s
variable_adds strict place n None s =
    thens (ask place (step.Get n)) (λ answer s1. found_nowhere strict place (told_value answer) s1) (ask_adds place (step.Get n)) (λ answer. found_nowhere_adds strict place (told_value answer)) s
