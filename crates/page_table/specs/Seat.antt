-- Where a code runs: in a page itself, or in a tag file that was called from somewhere in it.
use Rattle.std.specs.Prelude.{ℕ, ◌+◌, List, [], Option, Some, None}
use Rattle.std.specs.List.{find}
use Rattle.std.specs.Str.{bytes_eq}
use Rattle.http_in.specs.declared.params.Param.{Param}
use Rattle.page_code.specs.Calls.{body_size, fragments_from}
use Rattle.page_code.specs.declared.call.CallBody.{CallBody}
use Rattle.page_code.specs.declared.call.CallBody.TheVariants as body_is
use Rattle.page_code.specs.declared.call.Fragment.{Fragment}
use Rattle.page_code.specs.declared.code.Cell.{Cell}
use Rattle.page_meaning.specs.Context as meaning
use Rattle.page_meaning.specs.Context.{Export, Here, Called, Run, run_of}
use Rattle.page_table.specs.Program.{Program, TagCode, page_of, file_of}

-- a call of a tag file: the variables that it gives, the body and the fragments that it got, the place in the caller's code from which
-- theirs are counted, and the frame of its caller
pub record CallSeat : Type 0 where
  pub tag : TagCode
  pub exports : List Export
  pub body : CallBody
  pub fragments : List Fragment
  pub behind : ℕ
  pub frame : ℕ

-- where a code runs: in a page with its parameters, or in the tag file of a call, with where its caller runs
pub data Seat : Type 0 where
  in_page : Program → List Param → Seat
  in_tag : CallSeat → (caller : Seat) → Seat

-- the code that runs
abbrev pub code_of : Seat → List Cell
code_of (in_page program params) = program.code
code_of (in_tag call caller) = call.tag.code

-- the program of the page run
abbrev pub program_of : Seat → Program
program_of (in_page program params) = program
program_of (in_tag call caller) = program_of caller

-- the call, for the words that look neither at its body nor at its fragments
abbrev pub called_of : CallSeat → Called
called_of call = record { tag = file_of call.tag; exports = call.exports; body = meaning.nothing; fragments = []; frame = call.frame }

-- where it is, for the words of the meaning
abbrev pub here_of : Seat → Here
here_of (in_page program params) = meaning.in_page (record { page = page_of program; params = params })
here_of (in_tag call caller) = meaning.in_tag (run_of (here_of caller)) (called_of call) (here_of caller)

-- the page run
abbrev pub page_run_of : Seat → Run
page_run_of seat = run_of (here_of seat)

-- what a call gives where its body or a fragment is asked for: nothing, a source text, or a code at a place of the caller's
pub data Given : Type 0 where
  nothing : Given
  source_text : List ℕ → Given
  code_at : ℕ → Given

-- the body of a call, which stands first behind it
abbrev pub body_given : CallBody → (behind : ℕ) → Given
body_given body_is.Absent behind = nothing
body_given (body_is.Source text) behind = source_text text
body_given (body_is.Cells n) behind = code_at behind

-- the fragment of a name among those of a call
abbrev pub fragment_given : List ℕ → CallBody → List Fragment → (behind : ℕ) → Given
fragment_given name body fragments behind = some (find (λ f. bytes_eq name f.0) (fragments_from (behind + body_size body) fragments))
  where
    some : Option (List ℕ × ℕ) → Given
    some (Some f) = code_at f.1
    some None = nothing

-- the body that the call around gives
abbrev pub body_in : Seat → Given
body_in (in_page program params) = nothing
body_in (in_tag call caller) = body_given call.body call.behind

-- the fragment of a name that the call around gives
abbrev pub fragment_in : List ℕ → Seat → Given
fragment_in name (in_page program params) = nothing
fragment_in name (in_tag call caller) = fragment_given name call.body call.fragments call.behind
