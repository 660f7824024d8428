-- What each instruction does at its place.
use Rattle.std.specs.Prelude.{ℕ, ◌+◌, ◌-◌, Bool, true, false, not, List, [], ◌∷◌, ◌++◌, length, take, drop, slice_get, is_some, Option, Some, None}
use Rattle.page_code.specs.Ops.{takes, address_with}
use Rattle.page_code.specs.declared.call.CallOut.{CallOut}
use Rattle.page_code.specs.declared.call.CallOut.TheVariants as call
use Rattle.page_code.specs.declared.call.Leave.{Leave}
use Rattle.page_code.specs.declared.call.Leave.TheVariants as leave
use Rattle.page_code.specs.declared.code.Cell.{Cell}
use Rattle.page_code.specs.declared.instr.Instr.{Instr}
use Rattle.page_code.specs.declared.instr.Instr.TheVariants as instr
use Rattle.pg_text.specs.declared.place.Place.{Place}
use Rattle.pg_value.specs.Datum.{Datum, null, text}
use Rattle.pg_value.specs.Value.{datum_of, value_of}
use Rattle.scopes.specs.HeldScope.{held_scope}
use Rattle.scopes.specs.Scopes.{found_in}
use Rattle.scopes.specs.declared.held_scope.HeldScope.{HeldScope}
use Rattle.site_words.specs.declared.words.AppStep.TheVariants as step
use Rattle.out_buffer.specs.Writer.{with_body}
use Rattle.page_meaning.specs.Addresses.{redirect_mean}
use Rattle.page_meaning.specs.Attributes.{table_of, truth_or}
use Rattle.page_meaning.specs.Bodies.{taken}
use Rattle.page_meaning.specs.Includes.{forward_mean}
use Rattle.page_meaning.specs.Meaning.{flush_if}
use Rattle.page_meaning.specs.State.{State, in_writer}
use Rattle.site_words.specs.PageSteps.{tells_created}
use Rattle.page_meaning.specs.Variables.{set_held}
use Rattle.page_meaning.specs.Went.{Went, Well, then_do, either}
use Rattle.page_meaning.specs.Work.{ask}
use Rattle.page_table.specs.Calls.{tag_called, given_called}
use Rattle.page_table.specs.Landing.{Config, Running, Over, one_of, then_at, land}
use Rattle.page_table.specs.LoopMoves.{loop_opened, loop_next}
use Rattle.page_table.specs.Move.{Move, On, Stuck, popped, popped_all}
use Rattle.page_table.specs.Open.{OpenCatch, Open}
use Rattle.page_table.specs.Operations.{operation, levels, text_at, behind_first, params_in}
use Rattle.page_table.specs.Pages.{include_called, import_called}
use Rattle.page_table.specs.Program.{Serving, served_of, tag_at}
use Rattle.page_table.specs.Seat.{Seat, program_of, page_run_of, body_in, fragment_in, code_of}

-- whether a value is the truth value `true`
abbrev pub is_true : Datum → Bool
is_true d = truth_or false (Some d)

-- whether two truth values are the same
abbrev pub is_same_truth : Bool → Bool → Bool
is_same_truth true b = b
is_same_truth false b = not b

-- with other values
abbrev pub with_stack : List Datum → Open → Open
with_stack stack o = record o { stack = stack }

-- goes on at one place with a null popped, or at another where the top isn't null
abbrev pub jump_null : Datum → (to behind : ℕ) → State → (o popped : Open) → Config
jump_null null to behind s o p = Running to s p
jump_null d to behind s o p = Running behind s o

-- brings the value that stands so many below the top to the top
abbrev pub brought_up : Option Datum → ℕ → (to : ℕ) → State → Open → Move
brought_up (Some d) n to s o = On (Running to s (with_stack (d ∷ take n o.stack ++ drop (n + 1) o.stack) o))
brought_up None n to s o = Stuck

-- whether a bean was made: in a scope that the run holds where it is absent, in application scope by one step
abbrev pub bean_made : Place → Option HeldScope → List ℕ → Datum → State → Went Bool
bean_made place (Some scope) name bean s =
    either (is_some (found_in s.scopes scope name)) (Well false) (λ s1. then_do (set_held place scope name bean s1) (λ u s2. Well true s2)) s
bean_made place None name bean s = then_do (ask place (step.Ensure name (value_of bean)) s) (λ answer s1. Well (tells_created answer) s1)

-- a catch opens, from which a fault goes on at a place
abbrev pub with_catch : (to : ℕ) → State → Open → Open
with_catch to s o = record o { catches = record { to = to; values = length o.stack; bodies = length s.writer.kept; loops = length o.loops } ∷ o.catches }

-- the innermost catch closes
abbrev pub catch_closed : List OpenCatch → (to : ℕ) → State → Open → Move
catch_closed [] to s o = Stuck
catch_closed (c ∷ outer) to s o = On (Running to s (record o { catches = outer }))

-- what a call does, where the cell behind it has this place
abbrev pub called_out : Serving → Seat → Place → (behind : ℕ) → CallOut → State → Open → Move
called_out serving seat place behind (call.Tag c) s o = popped_all (length c.names) o (λ ds p. tag_called place (tag_at c.path (program_of seat).tags) c behind ds seat s p)
called_out serving seat place behind call.Body s o = given_called place (body_in seat) seat behind s o
called_out serving seat place behind (call.Fragment name) s o = given_called place (fragment_in name seat) seat behind s o
called_out serving seat place behind (call.Include flush params) s o =
    popped_all (address_with params) o (λ ds p. include_called serving place (page_run_of seat) (text_at 0 ds) (params_in (behind_first ds)) behind (flush_if flush s) p)
called_out serving seat place behind call.Import s o = popped_all 1 o (λ ds p. import_called serving place (page_run_of seat) (text_at 0 ds) behind s p)

-- how a code is left: the page ends for another address, or the code is at its end
abbrev pub leaving : Serving → Seat → Place → Leave → State → Open → Move
leaving serving seat place (leave.Forward params) s o =
    popped_all (address_with params) o
    (λ ds p. On (then_at p (forward_mean (served_of serving) (levels o.left) place (page_run_of seat) (text_at 0 ds) (params_in (behind_first ds)) s) (λ u s1. Over (Well u s1))))
leaving serving seat place leave.Redirect s o = popped_all 1 o (λ ds p. On (then_at p (redirect_mean place (text_at 0 ds) s) (λ u s1. Over (Well u s1))))
leaving serving seat place leave.End s o = On (Over (Well tt s))

-- an instruction at a place of its code
abbrev pub act : Serving → Seat → Place → (pc : ℕ) → State → Open → Instr → Move
act serving seat place pc s o (instr.Op op) = popped_all (takes op) o (λ ds p. On (land (pc + 1) (λ made. made ++ p.stack) p (operation serving seat place op ds s)))
act serving seat place pc s o (instr.Take n) = brought_up (slice_get o.stack n) n (pc + 1) s o
act serving seat place pc s o instr.StartBody = On (Running (pc + 1) (in_writer (with_body s.writer) s) o)
act serving seat place pc s o instr.TakeBody = On (land (pc + 1) (λ t. text t ∷ o.stack) o (taken place s))
act serving seat place pc s o (instr.Jump n) = On (Running (pc + 1 + n) s o)
act serving seat place pc s o (instr.JumpIf b n) = popped o o.stack (λ d p. On (one_of (is_same_truth b (is_true d)) (Running (pc + 1 + n) s p) (Running (pc + 1) s p)))
act serving seat place pc s o (instr.JumpNull n) = popped o o.stack (λ d p. On (jump_null d (pc + 1 + n) (pc + 1) s o p))
act serving seat place pc s o (instr.Ensure x bean n) =
    On (then_at o (bean_made place (held_scope x.scope) x.name (datum_of bean) s) (λ made s1. one_of made (Running (pc + 1) s1 o) (Running (pc + 1 + n) s1 o)))
act serving seat place pc s o (instr.LoopStart kind) = popped_all (length kind.names) o (λ ds p. On (loop_opened place kind (table_of kind.names ds) (pc + 1) s p))
act serving seat place pc s o (instr.LoopNext n) = loop_next place o.loops (pc - n) (pc + 1) s o
act serving seat place pc s o (instr.CatchStart n) = On (Running (pc + 1) s (with_catch (pc + 1 + n) s o))
act serving seat place pc s o instr.CatchEnd = catch_closed o.catches (pc + 1) s o
act serving seat place pc s o (instr.CallOut what) = called_out serving seat place (pc + 1) what s o
act serving seat place pc s o (instr.Leave how) = leaving serving seat place how s o

-- the instruction of a cell, where there is one
abbrev pub act_at : Serving → Seat → (pc : ℕ) → State → Open → Option Cell → Move
act_at serving seat pc s o None = Stuck
act_at serving seat pc s o (Some cell) = act serving seat cell.place pc s o cell.instr

-- what a run does next at a place of its code
abbrev pub move_of : Serving → Seat → (pc : ℕ) → State → Open → Move
move_of serving seat pc s o = act_at serving seat pc s o (slice_get (code_of seat) pc)
