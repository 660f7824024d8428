-- Words for worked pages: their ends by the table and by the meaning.
use Rattle.std.specs.Prelude.{◌≡◌, ℕ, List, [], ◌∷◌, codes, Option, Some, None, pos}
use Rattle.std.specs.Map.{lookup}
use Rattle.std.specs.Option.{unwrap_or}
use Rattle.std.specs.Str.{bytes_eq}
use Rattle.el_reader.specs.Tree as tree
use Rattle.el_reader.specs.Tree.{Tree}
use Rattle.http_in.specs.Request.{request_of}
use Rattle.code_lowering.specs.Programs.{program_of, stored_of}
use Rattle.page_meaning.specs.Context.{Paged, absent, Served}
use Rattle.page_meaning.specs.Page.{Node, Nodes, no_nodes, more_nodes, Attributes, written, words, expression, Page, TagFile}
use Rattle.page_meaning.specs.Respond.{beginning, at_start, first_run}
use Rattle.page_table.specs.Landing.{Running}
use Rattle.page_table.specs.Open.{fresh_open}
use Rattle.page_table.specs.Program.{Serving}
use Rattle.page_table.specs.Seat.{in_page}
use Rattle.page_table_tests.specs.Codes.{settings}
use Rattle.page_table_tests.specs.Steps.{end_of, Seen, seen}
use Rattle.pg_text.specs.declared.place.Place.{Place}
use Rattle.pg_value.specs.Datum.{number}
use Rattle.pg_value.specs.declared.operators.BinOp.TheVariants as binary
use Rattle.site_words.specs.Law.{Answer}
use Rattle.tag_decl.specs.declared.declaration.TagDecl.{TagDecl}

-- a column of the first line of a file
abbrev pub at : (file : List ℕ) → (column : ℕ) → Place
at file column = record { file = file; byte = 0; line = 1; column = column }

-- nodes in order
abbrev pub in_order : List Node → Nodes
in_order [] = no_nodes
in_order (n ∷ ns) = more_nodes n (in_order ns)

-- an attribute of text before the others, and one of an expression
abbrev pub text_given : (name text : List ℕ) → Place → Attributes → Attributes
text_given name text place rest = written name (words text ∷ []) place rest

abbrev pub value_given : (name : List ℕ) → Tree → Place → Attributes → Attributes
value_given name e place rest = written name (expression e ∷ []) place rest

-- a number
abbrev pub numeral : ℕ → Tree
numeral n = tree.literal (number (pos n))

-- ${1 % 0}
abbrev pub no_remainder : Tree
no_remainder = tree.binary binary.Rem (numeral 1) (numeral 0)

-- a page without a session
abbrev pub page : (path : List ℕ) → List Node → List TagFile → Page
page path nodes tags = record { path = path; nodes = in_order nodes; settings = settings; tags = tags; beans = [] }

-- a tag file
abbrev pub tag_file : (path : List ℕ) → TagDecl → List Node → TagFile
tag_file path decl nodes = record { path = path; decl = decl; settings = settings; nodes = in_order nodes }

-- what stands at each path
abbrev pub paged_in : List (List ℕ × Paged) → List ℕ → Paged
paged_in pages path = unwrap_or (lookup (bytes_eq path) pages) absent

-- a request of `/a.jsp`, where these pages stand
abbrev pub served : List (List ℕ × Paged) → Served
served pages = record { request = request_of (codes "GET") (codes "/a.jsp") [] []; pages = paged_in pages; exception = None }

-- the same for the table
abbrev pub serving : List (List ℕ × Paged) → Serving
serving pages = record { request = (served pages).request; stored = λ path. stored_of (paged_in pages path); exception = None }

-- what is seen of the end of a page's program, and of the page as it means, where these other pages stand and so many levels are left
abbrev pub by_table : List (List ℕ × Paged) → Page → List Answer → ℕ → Option Seen
by_table pages page answers left =
    seen (end_of 120 (serving pages) (in_page (program_of page) []) (Running 0 (at_start page (beginning None answers)) (fresh_open left)))

abbrev pub by_meaning : List (List ℕ × Paged) → Page → List Answer → ℕ → Option Seen
by_meaning pages page answers left = seen (Some (first_run (served pages) left page [] (beginning None answers)))

-- both are the same
pub record Ends (pages : List (List ℕ × Paged)) (page : Page) (answers : List Answer) (left : ℕ) (end : Seen) : Type 0 where
  pub table : by_table pages page answers left ≡ Some end
  pub meaning : by_meaning pages page answers left ≡ Some end
