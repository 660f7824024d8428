-- Worked codes.
use Rattle.std.specs.Prelude.{◌≡◌, ℕ, List, [], ◌∷◌, codes, true, false, Option, Some, None, pos}
use Rattle.http_in.specs.Request.{request_of}
use Rattle.page_code.specs.Shapes.{empty_shape, cell}
use Rattle.page_code.specs.declared.call.CallBody.TheVariants as body
use Rattle.page_code.specs.declared.call.CallOut.TheVariants as call
use Rattle.page_code.specs.declared.call.Leave.TheVariants as leave
use Rattle.page_code.specs.declared.code.Cell.{Cell}
use Rattle.page_code.specs.declared.instr.Instr.{Instr}
use Rattle.page_code.specs.declared.instr.Instr.TheVariants as instr
use Rattle.page_code.specs.declared.op.Op.{Op}
use Rattle.page_code.specs.declared.op.Op.TheVariants as op
use Rattle.page_code.specs.declared.operands.Coercion.TheVariants as to
use Rattle.page_code.specs.declared.operands.Over.TheVariants as over
use Rattle.page_code.specs.declared.operands.ScopedName.{ScopedName}
use Rattle.pg_text.specs.declared.place.Place.{Place}
use Rattle.pg_value.specs.Datum.{Datum, null, number, text}
use Rattle.pg_value.specs.Value.{value_of}
use Rattle.pg_value.specs.declared.operators.BinOp.TheVariants as binary
use Rattle.pg_value.specs.declared.scope.Scope.TheVariants as scope
use Rattle.pg_value.specs.declared.settings.PageSettings.{PageSettings}
use Rattle.site_words.specs.Law.{Answer, told}
use Rattle.site_words.specs.declared.words.AppReply.TheVariants as reply
use Rattle.site_words.specs.declared.words.AppStep.TheVariants as step
use Rattle.tag_decl.specs.declared.declaration.BodyKind.TheVariants as body_kind
use Rattle.page_meaning.specs.Respond.{beginning, at_start}
use Rattle.page_meaning.specs.State.{State}
use Rattle.site_words.specs.PageSteps.{app}
use Rattle.page_table.specs.Landing.{Running}
use Rattle.page_table.specs.Open.{fresh_open}
use Rattle.page_table.specs.Program.{TagCode, Program, absent, Serving, page_of}
use Rattle.page_table.specs.Seat.{in_page}
use Rattle.page_table_tests.specs.Steps.{end_of, Seen, seen, well, fault, to_address}

-- a column of the first line of `/a.jsp`
abbrev pub column : ℕ → Place
column n = record { file = codes "/a.jsp"; byte = 0; line = 1; column = n }

-- an instruction whose faults stand at a column; the table doesn't look at shapes
abbrev pub at : ℕ → Instr → Cell
at n i = cell empty_shape (column n) i

-- an operation at a column
abbrev pub does : ℕ → Op → Cell
does n o = at n (instr.Op o)

-- pushes a value
abbrev pub const : Datum → Cell
const d = does 1 (op.Const (value_of d))

-- pushes a number
abbrev pub const_number : ℕ → Cell
const_number n = const (number (pos n))

-- one visit
abbrev pub visit : Cell
visit = does 1 (op.Visit 1)

-- the end of a code
abbrev pub end : Cell
end = at 1 (instr.Leave leave.End)

-- a variable of page scope
abbrev pub page_variable : List ℕ → ScopedName
page_variable name = record { scope = scope.Page; name = name }

-- the settings of a page that has `session="false"` alone
abbrev pub settings : PageSettings
settings = record {
  session = false;
  buffer = Some 8192;
  auto_flush = true;
  error_page = None;
  content_type = codes "text/html;charset=UTF-8";
  el = false;
  hash_is_text = false;
  trim = false;
  not_found_is_fault = false;
}

-- the tag file `/WEB-INF/tags/t.tag` of this code, which declares nothing
abbrev pub tag : List Cell → TagCode
tag code = record {
  path = codes "/WEB-INF/tags/t.tag";
  decl = record { attributes = []; variables = []; body = body_kind.Scriptless; dynamic = None };
  settings = settings;
  code = code;
}

-- the page `/a.jsp` of this code
abbrev pub program : List Cell → List TagCode → Program
program code tags = record { path = codes "/a.jsp"; settings = settings; code = code; tags = tags }

-- a request of it, where no other file stands
abbrev pub serving : Serving
serving = record { request = request_of (codes "GET") (codes "/a.jsp") [] []; stored = λ path. absent; exception = None }

-- what is seen of the end of a page with these answers to its steps, so many levels left and so many visits before
abbrev pub run_from : List Cell → List TagCode → List Answer → (left visits : ℕ) → Option Seen
run_from code tags answers left visits =
    seen (end_of 60 serving (in_page (program code tags) []) (Running 0 (record (at_start (page_of (program code tags)) (beginning None answers)) { visits = visits }) (fresh_open left)))

-- what is seen of the end of a page
abbrev pub run : List Cell → Option Seen
run code = run_from code [] [] 100 0

-- ${1 + 2}
abbrev pub sum_code : List Cell
sum_code = visit ∷ visit ∷ visit ∷ const_number 1 ∷ visit ∷ const_number 2 ∷ does 1 (op.Binary binary.Add) ∷ does 1 (op.Coerce to.Text) ∷ does 1 op.Put ∷ end ∷ []

-- a sum is written
abbrev pub SumWritten : Type 0
SumWritten = run sum_code ≡ Some (well, codes "3", [], 4, [])

-- three texts joined, and escaped
abbrev pub joined_code : List Cell
joined_code = const (text (codes "a<")) ∷ const (text (codes "b")) ∷ const (text (codes "&")) ∷ does 1 (op.Concat 3) ∷ does 1 op.PutEscaped ∷ end ∷ []

-- texts are joined in the order in which they were pushed
abbrev pub TextsJoined : Type 0
TextsJoined = run joined_code ≡ Some (well, codes "a&lt;b&amp;", [], 0, [])

-- <c:forEach items="${[7, null, 9]}" var="x">${x},</c:forEach>${x}
abbrev pub each_code : List Cell
each_code =
    const_number 7 ∷ const null ∷ const_number 9 ∷ does 1 (op.MakeList 3)
    ∷ at 1 (instr.LoopStart (record { over = over.Items; names = codes "items" ∷ []; variable = Some (codes "x"); status = None }))
    ∷ at 1 (instr.Jump 4) ∷ does 1 (op.Find (codes "x")) ∷ does 1 (op.Coerce to.Text) ∷ does 1 op.Put ∷ does 1 (op.Write (codes ",")) ∷ at 1 (instr.LoopNext 4)
    ∷ does 1 (op.Find (codes "x")) ∷ does 1 (op.Coerce to.Text) ∷ does 1 op.Put ∷ end ∷ []

-- a loop counts a visit for each round, and its variable is gone behind it, so that the site is asked
abbrev pub EachItem : Type 0
EachItem =
    run_from each_code [] (told (reply.Value (value_of (text (codes "!")))) ∷ []) 100 0 ≡ Some (well, codes "7,,9,!", app (step.Get (codes "x")) ∷ [], 3, [])

-- <c:catch var="x">a${1 % 0}b</c:catch>${x.code}: the handler stands behind the body
abbrev pub caught_code : List Cell
caught_code =
    at 1 (instr.CatchStart 7) ∷ does 1 (op.Write (codes "a")) ∷ const_number 1 ∷ const_number 0 ∷ does 5 (op.Binary binary.Rem) ∷ does 1 (op.Write (codes "b"))
    ∷ at 1 instr.CatchEnd ∷ const null ∷ does 1 (op.SetVar (page_variable (codes "x")))
    ∷ does 1 (op.Find (codes "x")) ∷ const (text (codes "code")) ∷ does 1 op.Index ∷ does 1 (op.Coerce to.Text) ∷ does 1 op.Put ∷ end ∷ []

-- a catch takes a fault with its record
abbrev pub Caught : Type 0
Caught = run caught_code ≡ Some (well, codes "aX3", [], 0, [])

-- a fault in a body that is kept, inside a catch, with values and a loop open: all go but what was before the catch
abbrev pub caught_in_body_code : List Cell
caught_in_body_code =
    const (text (codes "!")) ∷ at 1 (instr.CatchStart 8) ∷ const_number 1
    ∷ at 1 (instr.LoopStart (record { over = over.Numbers; names = codes "end" ∷ []; variable = Some (codes "i"); status = None }))
    ∷ at 1 instr.StartBody ∷ does 1 (op.Write (codes "lost")) ∷ const_number 1 ∷ const_number 0 ∷ does 1 (op.Binary binary.Rem) ∷ at 1 instr.CatchEnd
    ∷ does 1 op.Pop ∷ does 1 op.Put ∷ end ∷ []

-- what was opened inside a catch goes with the fault
abbrev pub CaughtInBody : Type 0
CaughtInBody = run caught_in_body_code ≡ Some (well, codes "!", [], 0, [])

-- a catch around one visit more than a request has
abbrev pub not_caught_code : List Cell
not_caught_code = at 1 (instr.CatchStart 2) ∷ does 7 (op.Visit 1) ∷ at 1 instr.CatchEnd ∷ const null ∷ does 1 op.Pop ∷ end ∷ []

-- too much work isn't caught
abbrev pub NotCaught : Type 0
NotCaught = run_from not_caught_code [] [] 100 1000000 ≡ Some (fault 18 7, [], [], 1000000, [])

-- the last visit that a request has
abbrev pub LastVisit : Type 0
LastVisit = run_from not_caught_code [] [] 100 999999 ≡ Some (well, [], [], 1000000, [])

-- <t:t>b</t:t>! with [<jsp:doBody/>] as the tag file
abbrev pub call_code : List Cell
call_code =
    at 3 (instr.CallOut (call.Tag (record { path = codes "/WEB-INF/tags/t.tag"; names = []; body = body.Cells 2; fragments = [] })))
    ∷ does 1 (op.Write (codes "b")) ∷ end ∷ does 1 (op.Write (codes "!")) ∷ end ∷ []

-- the code of its tag file
abbrev pub call_tags : List TagCode
call_tags = tag (does 1 (op.Write (codes "[")) ∷ at 9 (instr.CallOut call.Body) ∷ does 1 (op.Write (codes "]")) ∷ end ∷ []) ∷ []

-- a call runs its tag file, which runs the body
abbrev pub CallWithBody : Type 0
CallWithBody = run_from call_code call_tags [] 2 0 ≡ Some (well, codes "[b]!", [], 0, [])

-- where one level is left the call runs and its body doesn't, where none is left not even the call
pub record NoLevel : Type 0 where
  pub body : run_from call_code call_tags [] 1 0 ≡ Some (fault 17 9, codes "[", [], 0, [])
  pub call : run_from call_code call_tags [] 0 0 ≡ Some (fault 17 3, [], [], 0, [])

-- text, and then a redirect
abbrev pub redirect_code : List Cell
redirect_code = does 1 (op.Write (codes "a")) ∷ const (text (codes "/b?c")) ∷ const (text (codes "n")) ∷ const (text (codes "v")) ∷ does 1 (op.Url 1) ∷ at 1 (instr.Leave leave.Redirect) ∷ []

-- an address gets its parameters, and a redirect ends the page
abbrev pub Redirected : Type 0
Redirected = run redirect_code ≡ Some (to_address (codes "/b?c&n=v"), codes "a", [], 0, [])
