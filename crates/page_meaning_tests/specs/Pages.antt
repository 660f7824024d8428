-- Words for worked pages, and what is seen of an answer.
use Rattle.std.specs.Prelude.{ℕ, Bool, true, false, List, [], ◌∷◌, ◌++◌, codes, Option, Some, None}
use Rattle.std.specs.Map.{lookup}
use Rattle.std.specs.Option.{unwrap_or}
use Rattle.std.specs.Str.{bytes_eq}
use Rattle.http_in.specs.Request.{request_of}
use Rattle.http_in.specs.declared.fields.Field.{Field}
use Rattle.http_in.specs.declared.request.Request.{Request}
use Rattle.http_out.specs.Response.{Response}
use Rattle.http_out.specs.declared.status.Status.{Status}
use Rattle.http_out.specs.declared.status.Status.TheVariants as status_is
use Rattle.pg_text.specs.declared.place.Place.{Place}
use Rattle.pg_value.specs.Datum.{Datum}
use Rattle.pg_value.specs.Value.{value_of}
use Rattle.pg_value.specs.declared.scope.Scope.{Scope}
use Rattle.pg_value.specs.declared.settings.PageSettings.{PageSettings}
use Rattle.scopes.specs.Scopes.{Entries}
use Rattle.site_words.specs.Law.{Answer, told}
use Rattle.site_words.specs.declared.words.AppReply.TheVariants as reply
use Rattle.tag_decl.specs.declared.declaration.TagDecl.{TagDecl}
use Rattle.page_meaning.specs.Context.{Paged, absent, good}
use Rattle.page_meaning.specs.Page.{Node, Nodes, no_nodes, more_nodes, Page, TagFile, Variable}
use Rattle.page_meaning.specs.Response.{Answered, responds, awaits}
use Rattle.site_words.specs.PageSteps.{Step}

-- a place, whose byte no fault tells
abbrev pub at : (file : List ℕ) → (line column : ℕ) → Place
at file line column = record { file = file; byte = 0; line = line; column = column }

-- a column of the first line of `/a.jsp`
abbrev pub column : ℕ → Place
column n = at (codes "/a.jsp") 1 n

abbrev pub in_order : List Node → Nodes
in_order [] = no_nodes
in_order (n ∷ ns) = more_nodes n (in_order ns)

abbrev pub variable : List ℕ → Option Scope → Variable
variable name scope = record { name = name; scope = scope }

abbrev pub settings : (session : Bool) → (buffer : Option ℕ) → (auto_flush : Bool) → (error_page : Option (List ℕ)) → (content_type : List ℕ) → (strict : Bool) → PageSettings
settings session buffer auto_flush error_page content_type strict = record {
  session = session;
  buffer = buffer;
  auto_flush = auto_flush;
  error_page = error_page;
  content_type = content_type;
  el = false;
  hash_is_text = false;
  trim = false;
  not_found_is_fault = strict;
}

-- the settings of a page that has `session="false"` alone
abbrev pub plain_settings : PageSettings
plain_settings = settings false (Some 8192) true None (codes "text/html;charset=UTF-8") false

-- the settings of a page or tag file without directives
abbrev pub with_session : PageSettings
with_session = settings true (Some 8192) true None (codes "text/html;charset=UTF-8") false

abbrev pub page : (path : List ℕ) → Nodes → PageSettings → List TagFile → (beans : Entries) → Page
page path nodes settings tags beans = record { path = path; nodes = nodes; settings = settings; tags = tags; beans = beans }

abbrev pub plain_page : (path : List ℕ) → Nodes → Page
plain_page path nodes = page path nodes plain_settings [] []

abbrev pub tag_file : (path : List ℕ) → TagDecl → PageSettings → Nodes → TagFile
tag_file path decl settings nodes = record { path = path; decl = decl; settings = settings; nodes = nodes }

-- what stands at each path
abbrev pub paged_in : List (List ℕ × Paged) → List ℕ → Paged
paged_in pages path = unwrap_or (lookup (bytes_eq path) pages) absent

-- the plain page `/a.jsp` of these nodes, and no other file
abbrev pub alone : List Node → List (List ℕ × Paged)
alone nodes = (codes "/a.jsp", good (plain_page (codes "/a.jsp") (in_order nodes))) ∷ []

abbrev pub get : (target : List ℕ) → Request
get target = request_of (codes "GET") target [] []

abbrev pub field : (name value : List ℕ) → Field
field name value = record { name = name; value = value }

-- answers to steps
abbrev pub tells : Datum → Answer
tells d = told (reply.Value (value_of d))

abbrev pub tells_done : Answer
tells_done = told reply.Done

abbrev pub tells_made : Answer
tells_made = told reply.Created

-- responses
abbrev pub response : Status → (content_type location set_cookie : Option (List ℕ)) → (pieces : List (List ℕ)) → (rest : List ℕ) → (broken : Bool) → Response
response status content_type location set_cookie pieces rest broken = record {
  head = record { status = status; content_type = content_type; set_cookie = set_cookie; location = location; allow = false; close = false };
  pieces = pieces;
  rest = rest;
  broken = broken;
}

-- what a page wrote that committed nothing
abbrev pub html : List ℕ → Response
html bytes = response status_is.Ok (Some (codes "text/html;charset=UTF-8")) None None [] bytes false

-- a plain answer of one line
abbrev pub line : Status → List ℕ → Response
line status text = response status (Some (codes "text/plain;charset=UTF-8")) None None [] (text ++ codes "\n") false

-- the response, the steps asked, the visits, the charge, and the session's attributes
abbrev pub Seen : Type 0
Seen = Response × List Step × ℕ × ℕ × Option Entries

abbrev pub seen : Answered → Option Seen
seen (responds response s) = Some (response, s.asked, s.visits, s.charge, s.scopes.session)
seen (awaits step s) = None

-- the step that has no answer
abbrev pub awaited : Answered → Option Step
awaited (responds response s) = None
awaited (awaits step s) = Some step

-- what a response without a commit has written
abbrev pub written_by : Answered → Option (List ℕ)
written_by (responds response s) = Some response.rest
written_by (awaits step s) = None
