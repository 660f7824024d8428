-- The cells of a worked page.
use Rattle.std.specs.Prelude.{◌≡◌, false, List, [], ◌∷◌, codes, None}
use Rattle.el_reader.specs.Tree as tree
use Rattle.page_code.specs.Shapes.{empty_shape, cell, up, looping}
use Rattle.page_code.specs.declared.code.Cell.{Cell}
use Rattle.page_code.specs.declared.call.Leave.TheVariants as leave
use Rattle.page_code.specs.declared.instr.Instr.TheVariants as instr
use Rattle.page_code.specs.declared.op.Op.TheVariants as op
use Rattle.page_code.specs.declared.operands.Coercion.TheVariants as to
use Rattle.page_code.specs.declared.operands.Over.TheVariants as over
use Rattle.code_lowering.specs.Programs.{program_of, file_place}
use Rattle.code_lowering_tests.specs.Words.{in_order, text_given, value_given, page}
use Rattle.page_meaning.specs.Page.{template, when_true, each, no_attributes, Page}
use Rattle.page_table_tests.specs.Codes.{column}
use Rattle.pg_value.specs.Datum.{text}
use Rattle.pg_value.specs.Value.{value_of}

-- <c:forEach end="3"><c:if test="${a}">t</c:if></c:forEach>
abbrev pub if_page : Page
if_page =
    page (codes "/a.jsp")
    (each None None (text_given (codes "end") (codes "3") (column 2) no_attributes)
    (in_order (when_true None (value_given (codes "test") (tree.name (codes "a")) (column 4) no_attributes) (in_order (template (codes "t") (column 5) ∷ [])) (column 3) ∷ [])) (column 1) ∷ []) []

-- the cells of its code: a jump names how many cells it passes over, and each cell tells what stands open before it
abbrev pub if_code : List Cell
if_code =
    let start = up 0 empty_shape in
    let round = looping empty_shape in
    cell start (column 1) (instr.Op (op.Visit 1))
    ∷ cell start (column 2) (instr.Op (op.Const (value_of (text (codes "3")))))
    ∷ cell (up 1 start) (column 2) (instr.Op (op.Concat 1))
    ∷ cell (up 1 start) (column 2) (instr.Op (op.Coerce to.Number))
    ∷ cell (up 1 start) (column 1) (instr.LoopStart (record { over = over.Items; names = codes "end" ∷ []; variable = None; status = None }))
    ∷ cell round (column 1) (instr.Jump 8)
    ∷ cell round (column 3) (instr.Op (op.Visit 1))
    ∷ cell round (column 4) (instr.Op (op.Visit 1))
    ∷ cell round (column 4) (instr.Op (op.Find (codes "a")))
    ∷ cell (up 1 round) (column 4) (instr.Op (op.Coerce to.Truth))
    ∷ cell (up 1 round) (column 3) (instr.JumpIf false 3)
    ∷ cell round (column 5) (instr.Op (op.Visit 1))
    ∷ cell round (column 5) (instr.Op (op.Write (codes "t")))
    ∷ cell round (column 3) (instr.Jump 0)
    ∷ cell round (column 1) (instr.LoopNext 8)
    ∷ cell start (file_place (codes "/a.jsp")) (instr.Leave leave.End) ∷ []

-- the code of a page
abbrev pub LoopWithTest : Type 0
LoopWithTest = (program_of if_page).code ≡ if_code
