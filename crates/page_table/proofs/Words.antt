-- Visits, steps, variables and texts are tame.
use Rattle.std.proofs.Common.{◌≡◌, ◌≤◌, ◌+◌, ℕ, zero, suc, Bool, true, false, List, [], ◌∷◌, ◌++◌, length, Option, Some, None, Result, Ok, Err, refl, sym, ap, nat_lt, nat_le, arith, append-nil}
use Rattle.std.specs.Prelude.{if◌then◌else◌}
use Rattle.edges.specs.History.{IsFront}
use Rattle.out_buffer.specs.Writer.{Writer, put, put_limit, flush, flushed, flushed_over, front_pieces, pieces_over, piece_of, buffered, written, placed, body_answer, innermost, without_body}
use Rattle.pg_text.specs.declared.place.Place.{Place}
use Rattle.pg_value.specs.Attrs.{with_entry, without_entry}
use Rattle.pg_value.specs.Datum as datum
use Rattle.pg_value.specs.Datum.{Datum, null, truth, number, text, rec}
use Rattle.pg_value.specs.Limits.{is_over}
use Rattle.pg_value.specs.Value.{value_of}
use Rattle.pg_value.specs.declared.fault.RunFault.{RunFault}
use Rattle.pg_value.specs.declared.fault.RunFault.TheVariants as fault
use Rattle.pg_value.specs.declared.scope.Scope.{Scope}
use Rattle.pg_value.specs.declared.scope.Scope.TheVariants as scope
use Rattle.scopes.specs.HeldScope.{held_scope}
use Rattle.scopes.specs.Scopes.{ScopeState, with_variable, without_variable, set_answer}
use Rattle.scopes.specs.declared.held_scope.HeldScope.{HeldScope}
use Rattle.scopes.specs.declared.held_scope.HeldScope.TheVariants as held
use Rattle.site_words.specs.Law.{Answer}
use Rattle.site_words.specs.declared.words.AppStep.{AppStep}
use Rattle.site_words.specs.declared.words.AppStep.TheVariants as step
use Rattle.page_meaning.specs.Bodies.{put_text, taken}
use Rattle.page_meaning.specs.Core.{set_or_remove}
use Rattle.page_meaning.specs.Growth.{state_of, Grows}
use Rattle.page_meaning.specs.Meaning.{flush_if}
use Rattle.page_meaning.specs.State.{State, in_scopes, in_writer}
use Rattle.site_words.specs.PageSteps.{app, told_value}
use Rattle.page_meaning.specs.Variables.{set_held, set_application, set_in, assign, remove_in, unassign, unassign_all, without_inner, inner_found, look_up_else, look_up}
use Rattle.page_meaning.specs.Went.{Went, Did, Well, Raised, then_do, either, result_of}
use Rattle.page_meaning.specs.Work.{visit_limit, visit, visited, is_spent, answer_from, ask}
use Rattle.page_table.specs.Operations.{visits}
use Rattle.page_meaning.proofs.Growing.{asks, commits, quiet, same}
use Rattle.page_table.proofs.Tame.{keeps_same, TameAt, Tame, Calm, scopes_calm, changed_frames, changed_calm, well, raised, result, changed, behind, then_at, thens, eithers}

-- a visit
pub visit_tame : (place : Place) → Tame (visit place)
visit_tame place s = go (nat_lt s.visits visit_limit)
  where
    go : (b : Bool) → TameAt s (let w : Did = if b then Well tt (record s { visits = s.visits + 1 }) else Raised fault.TooMuchWork place s in w)
    go true = record { grows = quiet s (record s { visits = s.visits + 1 }) refl refl refl; bodies = refl; visits = omega arith; frames = omega arith }
    go false = raised fault.TooMuchWork place s

pub visited_tame : {A : Type 0} (place : Place) (part : State → Went A) → Tame part → Tame (visited place part)
visited_tame place part h = thens (visit place) (λ u s1. part s1) (visit_tame place) (λ u. h)

pub visits_tame : (place : Place) (n : ℕ) → Tame (visits place n)
visits_tame place zero = well tt
visits_tame place (suc n) = visited_tame place (visits place n) (visits_tame place n)

-- a step
answer_tame : (x : AppStep) (s : State) (answers : List Answer) → TameAt s (answer_from x answers s)
answer_tame x s [] = record { grows = same s; bodies = refl; visits = omega arith; frames = omega arith }
answer_tame x s (answer ∷ rest) =
    record { grows = asks (app x) s (state_of (answer_from x (answer ∷ rest) s)) refl refl refl; bodies = refl; visits = omega arith; frames = omega arith }

pub ask_tame : (place : Place) (x : AppStep) → Tame (ask place x)
ask_tame place x s = go (is_spent s)
  where
    go : (b : Bool) → TameAt s (either b (Raised fault.AppTooMuch place) (answer_from x s.answers) s)
    go true = raised fault.AppTooMuch place s
    go false = answer_tame x s s.answers

-- variables
pub set_held_tame : (place : Place) (sc : HeldScope) (name : List ℕ) (d : Datum) → Tame (set_held place sc name d)
set_held_tame place sc name d s =
    let r = set_answer s.scopes sc name d in
    then_at s (result_of place r s) (λ u s1. Well tt (in_scopes (with_variable s1.scopes sc name d) s1)) (result place r s)
    (λ u. changed tt (λ s1. in_scopes (with_variable s1.scopes sc name d) s1) (changed_calm sc (λ entries. with_entry entries name d)))

set_application_tame : (place : Place) (name : List ℕ) (d : Datum) → Tame (set_application place name d)
set_application_tame place name d =
    eithers (is_over d) (Raised fault.ValueTooLarge place) (λ s1. then_do (ask place (step.Set name (value_of d)) s1) (λ answer s2. Well tt s2))
    (raised fault.ValueTooLarge place) (thens (ask place (step.Set name (value_of d))) (λ answer s2. Well tt s2) (ask_tame place (step.Set name (value_of d))) (λ answer. well tt))

set_in_tame : (place : Place) (held : Option HeldScope) (name : List ℕ) (d : Datum) → Tame (set_in place held name d)
set_in_tame place (Some sc) name d = set_held_tame place sc name d
set_in_tame place None name d = set_application_tame place name d

pub assign_tame : (place : Place) (sc : Scope) (name : List ℕ) (d : Datum) → Tame (assign place sc name d)
assign_tame place sc name d = set_in_tame place (held_scope sc) name d

remove_in_tame : (place : Place) (held : Option HeldScope) (name : List ℕ) → Tame (remove_in place held name)
remove_in_tame place (Some sc) name = changed tt (λ s. in_scopes (without_variable s.scopes sc name) s) (changed_calm sc (λ entries. without_entry entries name))
remove_in_tame place None name = thens (ask place (step.Remove name)) (λ answer s1. Well tt s1) (ask_tame place (step.Remove name)) (λ answer. well tt)

pub unassign_tame : (place : Place) (sc : Scope) (name : List ℕ) → Tame (unassign place sc name)
unassign_tame place sc name = remove_in_tame place (held_scope sc) name

inner_frames : (name : List ℕ) (scopes : ScopeState) → length scopes.frames ≤ length (without_inner name scopes).frames
inner_frames name scopes = changed_frames scopes held.Page (λ entries. without_entry entries name)

pub unassign_all_tame : (place : Place) (name : List ℕ) → Tame (unassign_all place name)
unassign_all_tame place name =
    behind (unassign place scope.Application name) (λ s. in_scopes (without_inner name s.scopes) s) (scopes_calm (without_inner name) (inner_frames name)) (unassign_tame place scope.Application name)

pub set_tame : (place : Place) (sc : Scope) (name : List ℕ) (d : Datum) → Tame (set_or_remove place (record { name = name; scope = Some sc }) d)
set_tame place sc name null = unassign_tame place sc name
set_tame place sc name (truth b) = assign_tame place sc name (truth b)
set_tame place sc name (number n) = assign_tame place sc name (number n)
set_tame place sc name (text t) = assign_tame place sc name (text t)
set_tame place sc name (datum.list is) = assign_tame place sc name (datum.list is)
set_tame place sc name (rec es) = assign_tame place sc name (rec es)

look_up_else_tame : (place : Place) (name : List ℕ) (o : Option (Scope × Datum)) → Tame (look_up_else place name o)
look_up_else_tame place name (Some p) = well p
look_up_else_tame place name None =
    thens (ask place (step.Get name)) (λ answer s1. Well (scope.Application, told_value answer) s1) (ask_tame place (step.Get name)) (λ answer. well (scope.Application, told_value answer))

pub look_up_tame : (place : Place) (name : List ℕ) → Tame (look_up place name)
look_up_tame place name s = look_up_else_tame place name (inner_found s.scopes name) s

-- what is written only adds pieces and keeps the number of bodies
abbrev Adds : Writer → Result Writer RunFault → Type 0
Adds v (Ok w) = IsFront v.pieces w.pieces × (length w.kept ≡ length v.kept)
Adds v (Err f) = Unit {0}

pick : {A : Type 0} (P : A → Type 0) (b : Bool) (x y : A) → P x → P y → P (if b then x else y)
pick P true x y p q = p
pick P false x y p q = q

buffered_adds : (size : ℕ) (bytes : List ℕ) (w : Writer) → Adds w (buffered size bytes w)
buffered_adds size bytes w =
    pick (Adds w) (nat_le (length bytes) size) (Ok (record w { buffer = bytes })) (if w.autoflush then Ok (flushed_over size bytes w) else Err fault.BufferOverflow)
    (([], sym (append-nil w.pieces)), refl)
    (pick (Adds w) w.autoflush (Ok (flushed_over size bytes w)) (Err fault.BufferOverflow) ((front_pieces (pieces_over size (length bytes)) size bytes, refl), refl) tt)

written_adds : (size : Option ℕ) (bytes : List ℕ) (w : Writer) → Adds w (written size bytes w)
written_adds None bytes w = ((piece_of bytes, refl), refl)
written_adds (Some size) bytes w = buffered_adds size (w.buffer ++ bytes) w

placed_adds : (ks : List (List ℕ)) (bytes : List ℕ) (w : Writer) → w.kept ≡ ks → Adds w (placed ks bytes w)
placed_adds [] bytes w e = written_adds w.size bytes w
placed_adds (body ∷ outer) bytes w e = (([], sym (append-nil w.pieces)), sym (ap length e))

put_adds : (bytes : List ℕ) (w : Writer) → Adds w (put bytes w)
put_adds bytes w =
    let counted = record w { count = w.count + length bytes } in
    pick (Adds w) (nat_lt put_limit (w.count + length bytes)) (Err fault.OutputTooLong) (placed w.kept bytes counted) tt (placed_adds w.kept bytes counted refl)

-- a text that was put, or its fault
abbrev put_so : Place → Result Writer RunFault → State → Did
put_so place r s = then_do (result_of place r s) (λ w s1. Well tt (in_writer w s1))

pub put_text_tame : (place : Place) (bytes : List ℕ) → Tame (put_text place bytes)
put_text_tame place bytes s = go (put bytes s.writer) (put_adds bytes s.writer)
  where
    go : (r : Result Writer RunFault) → Adds s.writer r → TameAt s (put_so place r s)
    go (Ok w) adds = record { grows = commits s w adds.0; bodies = adds.1; visits = omega arith; frames = omega arith }
    go (Err f) adds = raised f place s

-- a flush
flushed_adds : (ks : List (List ℕ)) (w : Writer) → IsFront w.pieces (flushed ks w).pieces × (length (flushed ks w).kept ≡ length w.kept)
flushed_adds [] w = ((piece_of w.buffer, refl), refl)
flushed_adds (body ∷ outer) w = (([], sym (append-nil w.pieces)), refl)

pub flush_if_calm : (b : Bool) → Calm (flush_if b)
flush_if_calm true s =
    let h = flushed_adds s.writer.kept s.writer in
    record { grows = commits s (flush s.writer) h.0; bodies = h.1; visits = omega arith; frames = omega arith }
flush_if_calm false s = keeps_same s

-- a body taken: as many steps and pieces, whether or not it is a fault
pub taken_grows : (place : Place) (s : State) → Grows s (state_of (taken place s))
taken_grows place s = go (body_answer (innermost s.writer.kept))
  where
    go : (r : Result (List ℕ) RunFault) → Grows s (state_of (result_of place r (in_writer (without_body s.writer) s)))
    go (Ok t) = quiet s (in_writer (without_body s.writer) s) refl refl refl
    go (Err f) = quiet s (in_writer (without_body s.writer) s) refl refl refl
