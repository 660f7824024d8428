-- Calls of tag files, and the bodies and fragments that they are given.
use Rattle.std.specs.Prelude.{ℕ, ◌+◌, List, Option, Some, None}
use Rattle.pg_text.specs.declared.place.Place.{Place}
use Rattle.pg_value.specs.Datum.{Datum}
use Rattle.scopes.specs.Scopes.{Entries, turned_to, with_frame_of}
use Rattle.page_code.specs.Calls.{call_size}
use Rattle.page_code.specs.declared.call.TagCall.{TagCall}
use Rattle.page_meaning.specs.Attributes.{table_of}
use Rattle.page_meaning.specs.Bodies.{put_text}
use Rattle.page_meaning.specs.Exports.{exports_of, is_at_fragment, copied_out}
use Rattle.page_meaning.specs.State.{State, in_scopes}
use Rattle.page_meaning.specs.Tags.{first_frame, call_ended}
use Rattle.page_meaning.specs.Variables.{back_to}
use Rattle.page_meaning.specs.Went.{Did, then_do, tidied, result_of}
use Rattle.page_table.specs.Landing.{Running, land}
use Rattle.page_table.specs.Move.{Move, On, Into, then_move, one_deeper}
use Rattle.page_table.specs.Open.{Open, fresh_open}
use Rattle.page_table.specs.Program.{TagCode}
use Rattle.page_table.specs.Seat.{CallSeat, Seat, in_page, in_tag, called_of, Given, nothing, source_text, code_at}

-- how the end of a call's run is taken: its variables are given back, and its frame goes
abbrev pub call_back : CallSeat → (before : State) → Did → Did
call_back call before d = tidied (back_to before.scopes) (then_do d (λ u s. call_ended (called_of call) before.scopes s))

-- a call runs its tag file's code one deeper, in a frame of these entries, and goes on at a place
abbrev pub call_entered : Place → CallSeat → Entries → (caller : Seat) → (to : ℕ) → State → Open → Move
call_entered place call entries caller to s o =
    one_deeper place s o o.left (λ left. Into (in_tag call caller) (Running 0 (in_scopes (with_frame_of entries s.scopes) s) (fresh_open left)) (λ d. land to (λ u. o.stack) o (call_back call s d)))

-- the call that a CallOut makes, in the frame that is current
abbrev pub call_of : TagCode → TagCall → (behind : ℕ) → Entries → State → CallSeat
call_of tag call behind entries s =
    record { tag = tag; exports = exports_of entries tag.decl.variables; body = call.body; fragments = call.fragments; behind = behind; frame = s.scopes.current }

-- a call of a tag file with the values of its attributes; a unit has each one that it calls
abbrev pub tag_called : Place → Option TagCode → TagCall → (behind : ℕ) → List Datum → (caller : Seat) → State → Open → Move
tag_called place None call behind ds caller s o = On (Running (behind + call_size call) s o)
tag_called place (Some tag) call behind ds caller s o =
    then_move o (result_of place (first_frame tag.decl (table_of call.names ds)) s)
    (λ entries s1. call_entered place (call_of tag call behind entries s1) entries caller (behind + call_size call) s1 o)

-- with the variables that a call gives to its fragments copied to its caller
abbrev pub copied_to_caller : CallSeat → State → State
copied_to_caller call s = in_scopes (copied_out is_at_fragment call.exports call.frame s.scopes) s

-- in the frame of a call's caller
abbrev pub in_callers_frame : CallSeat → State → State
in_callers_frame call s = in_scopes (turned_to s.scopes call.frame) s

-- what a call gives: a source text is written, a code runs where the call stands, in the caller's frame
abbrev pub given_entered : Place → (left : ℕ) → Given → CallSeat → (caller : Seat) → (to : ℕ) → State → Open → Move
given_entered place left nothing call caller to s o = On (Running to s o)
given_entered place left (source_text t) call caller to s o = On (land to (λ u. o.stack) o (tidied (back_to s.scopes) (put_text place t (copied_to_caller call s))))
given_entered place left (code_at at) call caller to s o =
    Into caller (Running at (in_callers_frame call (copied_to_caller call s)) (fresh_open left)) (λ d. land to (λ u. o.stack) o (tidied (back_to s.scopes) d))

-- the same one deeper
abbrev pub given_deeper : Place → Given → Seat → (to : ℕ) → State → Open → Move
given_deeper place g (in_page program params) to s o = On (Running to s o)
given_deeper place g (in_tag call caller) to s o = one_deeper place s o o.left (λ left. given_entered place left g call caller to s o)

-- the body or a fragment that the call around gives; what wasn't given gives nothing
abbrev pub given_called : Place → Given → Seat → (to : ℕ) → State → Open → Move
given_called place nothing seat to s o = On (Running to s o)
given_called place g seat to s o = given_deeper place g seat to s o
