-- The words that the meaning is made of are orderly: visits, steps, variables, and what is written and kept.
use Rattle.std.proofs.Common.{◌≡◌, ◌+◌, ℕ, Bool, true, false, List, [], ◌∷◌, ◌++◌, length, Option, Some, None, Result, Ok, Err, refl, sym, nat_lt, nat_le, append-nil}
use Rattle.std.specs.Prelude.{if◌then◌else◌}
use Rattle.edges.specs.History.{IsFront}
use Rattle.el_coercion.specs.Text.{text_of}
use Rattle.pg_text.specs.declared.place.Place.{Place}
use Rattle.pg_value.specs.Datum.{Datum, text}
use Rattle.pg_value.specs.Limits.{is_over}
use Rattle.pg_value.specs.Value.{value_of}
use Rattle.pg_value.specs.declared.fault.RunFault.{RunFault}
use Rattle.pg_value.specs.declared.fault.RunFault.TheVariants as fault
use Rattle.pg_value.specs.declared.scope.Scope.{Scope}
use Rattle.pg_value.specs.declared.scope.Scope.TheVariants as scope
use Rattle.scopes.specs.HeldScope.{held_scope}
use Rattle.scopes.specs.Scopes.{ScopeState, with_variable, without_variable, set_answer}
use Rattle.scopes.specs.declared.held_scope.HeldScope.{HeldScope}
use Rattle.site_words.specs.Law.{Answer}
use Rattle.site_words.specs.declared.words.AppStep.{AppStep}
use Rattle.site_words.specs.declared.words.AppStep.TheVariants as step
use Rattle.page_meaning.specs.Bodies.{put_text, taken, keeping, kept_value, given_value, shown_mean, trimmed, trimmed_if}
use Rattle.page_meaning.specs.Growth.{state_of, with_more, AsksOn}
use Rattle.page_meaning.specs.Page.{Variable}
use Rattle.page_meaning.specs.State.{State, in_scopes, in_writer, with_asked}
use Rattle.site_words.specs.PageSteps.{app, fetch, told_value}
use Rattle.page_meaning.specs.Variables.{set_held, set_application, set_in, assign, remove_in, unassign, unassign_in, assign_variable, scope_or_page, without_inner, inner_found, look_up_else, look_up, back_to}
use Rattle.page_meaning.specs.Went.{Went, Did, Well, Raised, then_do, either, result_of}
use Rattle.page_meaning.specs.Work.{visit_limit, visit, visited, is_spent, answer_from, ask, fetched}
use Rattle.out_buffer.specs.Writer.{Writer, put_limit, put, placed, written, buffered, flushed_over, pieces_over, front_pieces, piece_of, body_answer, with_body, without_body, innermost, flushed, flush}
use Rattle.page_meaning.proofs.Growing.{asks, commits, quiet, same}
use Rattle.page_meaning.proofs.Orderly.{OrderlyAt, Orderly, Calm, well, raised, result, changed, behind, then_at, thens, eithers}

-- a change of scopes alone
pub scopes_calm : (change : ScopeState → ScopeState) → Calm (λ s. in_scopes (change s.scopes) s)
scopes_calm change = record { grows = λ s. quiet s (in_scopes (change s.scopes) s) refl refl refl; kept = λ s more. refl }

pub nothing_calm : Calm (λ s. s)
nothing_calm = record { grows = λ s. same s; kept = λ s more. refl }

-- a change of the writer that keeps its pieces
pub writer_calm : (change : Writer → Writer) → ((w : Writer) → (change w).pieces ≡ w.pieces) → Calm (λ s. in_writer (change s.writer) s)
writer_calm change keeps = record { grows = λ s. quiet s (in_writer (change s.writer) s) refl (keeps s.writer) refl; kept = λ s more. refl }

pub back_calm : (before : ScopeState) → Calm (back_to before)
back_calm before = record { grows = λ s. quiet s (back_to before s) refl refl refl; kept = λ s more. refl }

module _ {left : ℕ} where
  pub visit_orderly : (place : Place) → Orderly left (visit place)
  visit_orderly place s = go (nat_lt s.visits visit_limit)
    where
      go : (b : Bool) → OrderlyAt left s (if b then Well tt (record s { visits = s.visits + 1 }) else Raised fault.TooMuchWork place s)
          (λ more. let w : Did = if b then Well tt (record (with_more more s) { visits = s.visits + 1 }) else Raised fault.TooMuchWork place (with_more more s) in w)
      go true = record { grows = quiet s (record s { visits = s.visits + 1 }) refl refl refl; goes_on = λ more. refl; leaves = tt }
      go false = raised fault.TooMuchWork place s

  pub visited_orderly : {A : Type 0} (place : Place) (part : State → Went A) → Orderly left part → Orderly left (visited place part)
  visited_orderly place part h = thens (visit place) (λ u s1. part s1) (visit_orderly place) (λ u. h)

  -- an answer is used, or waited for
  answer_orderly : (x : AppStep) (s : State) (answers : List Answer) → s.answers ≡ answers
      → OrderlyAt left s (answer_from x answers s) (λ more. answer_from x (answers ++ more) (with_more more s))
  answer_orderly x s [] none = record { grows = same s; goes_on = λ more. (none, waits more, refl); leaves = tt }
    where
      waits : (more : List Answer) → AsksOn (app x) s more (answer_from x more (with_more more s))
      waits [] = refl
      waits (answer ∷ rest) = quiet (with_asked (app x) s) (state_of (answer_from x (answer ∷ rest) (with_more (answer ∷ rest) s))) refl refl refl
  answer_orderly x s (answer ∷ rest) some = record {
    grows = asks (app x) s (state_of (answer_from x (answer ∷ rest) s)) refl refl refl;
    goes_on = λ more. refl;
    leaves = tt;
  }

  pub ask_orderly : (place : Place) (x : AppStep) → Orderly left (ask place x)
  ask_orderly place x s = go (is_spent s)
    where
      go : (b : Bool) → OrderlyAt left s (either b (Raised fault.AppTooMuch place) (answer_from x s.answers) s)
          (λ more. either b (Raised fault.AppTooMuch place) (answer_from x (s.answers ++ more)) (with_more more s))
      go true = raised fault.AppTooMuch place s
      go false = answer_orderly x s s.answers refl

  pub set_held_orderly : (place : Place) (sc : HeldScope) (name : List ℕ) (d : Datum) → Orderly left (set_held place sc name d)
  set_held_orderly place sc name d s =
      let r = set_answer s.scopes sc name d in
      then_at s (result_of place r s) (λ more. result_of place r (with_more more s)) (λ u s1. Well tt (in_scopes (with_variable s1.scopes sc name d) s1))
      (result place r s) (λ u. changed tt (λ s1. in_scopes (with_variable s1.scopes sc name d) s1) (scopes_calm (λ scopes. with_variable scopes sc name d)))

  set_application_orderly : (place : Place) (name : List ℕ) (d : Datum) → Orderly left (set_application place name d)
  set_application_orderly place name d =
      eithers (is_over d) (Raised fault.ValueTooLarge place) (λ s1. then_do (ask place (step.Set name (value_of d)) s1) (λ answer s2. Well tt s2))
      (raised fault.ValueTooLarge place) (thens (ask place (step.Set name (value_of d))) (λ answer s2. Well tt s2) (ask_orderly place (step.Set name (value_of d))) (λ answer. well tt))

  set_in_orderly : (place : Place) (held : Option HeldScope) (name : List ℕ) (d : Datum) → Orderly left (set_in place held name d)
  set_in_orderly place (Some sc) name d = set_held_orderly place sc name d
  set_in_orderly place None name d = set_application_orderly place name d

  pub assign_orderly : (place : Place) (sc : Scope) (name : List ℕ) (d : Datum) → Orderly left (assign place sc name d)
  assign_orderly place sc name d = set_in_orderly place (held_scope sc) name d

  pub assign_variable_orderly : (place : Place) (x : Variable) (d : Datum) → Orderly left (assign_variable place x d)
  assign_variable_orderly place x d = assign_orderly place (scope_or_page x.scope) x.name d

  remove_in_orderly : (place : Place) (held : Option HeldScope) (name : List ℕ) → Orderly left (remove_in place held name)
  remove_in_orderly place (Some sc) name = changed tt (λ s. in_scopes (without_variable s.scopes sc name) s) (scopes_calm (λ scopes. without_variable scopes sc name))
  remove_in_orderly place None name = thens (ask place (step.Remove name)) (λ answer s1. Well tt s1) (ask_orderly place (step.Remove name)) (λ answer. well tt)

  unassign_orderly : (place : Place) (sc : Scope) (name : List ℕ) → Orderly left (unassign place sc name)
  unassign_orderly place sc name = remove_in_orderly place (held_scope sc) name

  pub unassign_in_orderly : (place : Place) (sc : Option Scope) (name : List ℕ) → Orderly left (unassign_in place sc name)
  unassign_in_orderly place (Some sc) name = unassign_orderly place sc name
  unassign_in_orderly place None name =
      behind (unassign place scope.Application name) (λ s. in_scopes (without_inner name s.scopes) s) (scopes_calm (without_inner name)) (unassign_orderly place scope.Application name)

  look_up_else_orderly : (place : Place) (name : List ℕ) (o : Option (Scope × Datum)) → Orderly left (look_up_else place name o)
  look_up_else_orderly place name (Some p) = well p
  look_up_else_orderly place name None =
      thens (ask place (step.Get name)) (λ answer s1. Well (scope.Application, told_value answer) s1) (ask_orderly place (step.Get name)) (λ answer. well (scope.Application, told_value answer))

  pub look_up_orderly : (place : Place) (name : List ℕ) → Orderly left (look_up place name)
  look_up_orderly place name s = look_up_else_orderly place name (inner_found s.scopes name) s

-- what is put or flushed only adds pieces
abbrev pub AddsPieces : List (List ℕ) → Result Writer RunFault → Type 0
AddsPieces pieces (Ok w) = IsFront pieces w.pieces
AddsPieces pieces (Err f) = Unit {0}

pick : {A : Type 0} (P : A → Type 0) (b : Bool) (x y : A) → P x → P y → P (if b then x else y)
pick P true x y p q = p
pick P false x y p q = q

buffered_adds : (size : ℕ) (bytes : List ℕ) (w : Writer) → AddsPieces w.pieces (buffered size bytes w)
buffered_adds size bytes w =
    pick (AddsPieces w.pieces) (nat_le (length bytes) size) (Ok (record w { buffer = bytes })) (if w.autoflush then Ok (flushed_over size bytes w) else Err fault.BufferOverflow)
    ([], sym (append-nil w.pieces))
    (pick (AddsPieces w.pieces) w.autoflush (Ok (flushed_over size bytes w)) (Err fault.BufferOverflow) (front_pieces (pieces_over size (length bytes)) size bytes, refl) tt)

written_adds : (size : Option ℕ) (bytes : List ℕ) (w : Writer) → AddsPieces w.pieces (written size bytes w)
written_adds None bytes w = (piece_of bytes, refl)
written_adds (Some size) bytes w = buffered_adds size (w.buffer ++ bytes) w

placed_adds : (kept : List (List ℕ)) (bytes : List ℕ) (w : Writer) → AddsPieces w.pieces (placed kept bytes w)
placed_adds [] bytes w = written_adds w.size bytes w
placed_adds (body ∷ outer) bytes w = ([], sym (append-nil w.pieces))

pub put_adds : (bytes : List ℕ) (w : Writer) → AddsPieces w.pieces (put bytes w)
put_adds bytes w =
    let counted = record w { count = w.count + length bytes } in
    pick (AddsPieces w.pieces) (nat_lt put_limit (w.count + length bytes)) (Err fault.OutputTooLong) (placed w.kept bytes counted) tt (placed_adds w.kept bytes counted)

pub flushed_adds : (kept : List (List ℕ)) (w : Writer) → IsFront w.pieces (flushed kept w).pieces
flushed_adds [] w = (piece_of w.buffer, refl)
flushed_adds (body ∷ outer) w = ([], sym (append-nil w.pieces))

pub flush_calm : Calm (λ s. in_writer (flush s.writer) s)
flush_calm = record {
  grows = λ s. commits s (flush s.writer) (flushed_adds s.writer.kept s.writer);
  kept = λ s more. refl;
}

pub fetched_calm : (path : List ℕ) → Calm (fetched path)
fetched_calm path = record { grows = λ s. asks (fetch path) s (fetched path s) refl refl refl; kept = λ s more. refl }

-- a text that was put, or its fault
abbrev put_so : Place → Result Writer RunFault → State → Did
put_so place r s = then_do (result_of place r s) (λ w s1. Well tt (in_writer w s1))

module _ {left : ℕ} where
  pub put_text_orderly : (place : Place) (bytes : List ℕ) → Orderly left (put_text place bytes)
  put_text_orderly place bytes s = go (put bytes s.writer) (put_adds bytes s.writer)
    where
      go : (r : Result Writer RunFault) → AddsPieces s.writer.pieces r → OrderlyAt left s (put_so place r s) (λ more. put_so place r (with_more more s))
      go (Ok w) adds = record { grows = commits s w adds; goes_on = λ more. refl; leaves = tt }
      go (Err f) adds = raised f place s

  pub taken_orderly : (place : Place) → Orderly left (taken place)
  taken_orderly place s =
      let r = body_answer (innermost s.writer.kept) in
      behind (result_of place r) (λ s1. in_writer (without_body s1.writer) s1) (writer_calm without_body (λ w. refl)) (result place r) s

  pub keeping_orderly : (place : Place) (part : State → Did) → Orderly left part → Orderly left (keeping place part)
  keeping_orderly place part h =
      thens (λ s. part (in_writer (with_body s.writer) s)) (λ u s1. taken place s1)
      (behind part (λ s. in_writer (with_body s.writer) s) (writer_calm with_body (λ w. refl)) h) (λ u. taken_orderly place)

  pub kept_value_orderly : (place : Place) (part : State → Did) → Orderly left part → Orderly left (kept_value place part)
  kept_value_orderly place part h = thens (keeping place part) (λ t s1. Well (text (trimmed t)) s1) (keeping_orderly place part h) (λ t. well (text (trimmed t)))

  pub given_value_orderly : (trim : Bool) (place : Place) (part : State → Did) → Orderly left part → Orderly left (given_value trim place part)
  given_value_orderly trim place part h =
      thens (keeping place part) (λ t s1. Well (text (trimmed_if trim t)) s1) (keeping_orderly place part h) (λ t. well (text (trimmed_if trim t)))

  pub shown_orderly : (place : Place) (value : State → Went Datum) → Orderly left value → Orderly left (shown_mean place value)
  shown_orderly place value h =
      thens value (λ d s1. then_do (result_of place (text_of d) s1) (λ t s2. put_text place t s2)) h
      (λ d. thens (result_of place (text_of d)) (λ t s2. put_text place t s2) (result place (text_of d)) (λ t. put_text_orderly place t))
