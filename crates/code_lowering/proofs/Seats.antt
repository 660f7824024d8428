-- A code runs where the meaning runs nodes: in the program of the page run, with what its call gives.
use Rattle.std.proofs.Common.{◌≡◌, ℕ, ◌+◌, Bool, true, false, List, [], ◌∷◌, ◌++◌, length, map, Some, None, Option, option_map, bytes_eq, refl, ap}
use Rattle.std.specs.Prelude.{cond}
use Rattle.std.specs.List.{find}
use Rattle.std.specs.Option.{option_and_then}
use Rattle.page_code.specs.Calls.{body_size, fragments_from}
use Rattle.page_code.specs.Shapes.{empty_shape}
use Rattle.page_code.specs.declared.call.CallBody.{CallBody}
use Rattle.page_code.specs.declared.call.CallBody.TheVariants as body_is
use Rattle.page_code.specs.declared.call.Fragment as code
use Rattle.page_code.specs.declared.code.Cell.{Cell}
use Rattle.page_meaning.specs.Context as meaning
use Rattle.page_meaning.specs.Context.{Here, Run, Called, GivenBody, run_of, is_strict}
use Rattle.page_meaning.specs.Fragments as meaning_fragments
use Rattle.page_meaning.specs.Page.{Page, TagFile, Nodes, Attributes, no_attributes, written, given, Body, no_body, given_body}
use Rattle.page_meaning.specs.Tags as tags
use Rattle.page_table.specs.Program.{page_of, tag_at}
use Rattle.page_table.specs.Seat.{Seat, in_page, in_tag, code_of as seat_code, program_of as seat_program, here_of, Given, nothing, source_text, code_at, body_given, fragment_given}
use Rattle.pg_text.specs.declared.place.Place.{Place}
use Rattle.tag_decl.specs.Declare.{declared}
use Rattle.tag_decl.specs.declared.declaration.AttrDecl.{AttrDecl}
use Rattle.tag_decl.specs.declared.declaration.BodyKind.{BodyKind}
use Rattle.tag_decl.specs.declared.declaration.BodyKind.TheVariants as body_kind
use Rattle.tag_decl.specs.declared.declaration.TagDecl.{TagDecl}
use Rattle.code_forms.specs.Codes.{form_code, handed_code, body_code, body_of, fragments_code, sizes_of}
use Rattle.code_forms.specs.Forms.{Fragments}
use Rattle.code_lowering.specs.Lowering.{nodes_form, handed_form, fragment_if, with_fragment, fragments_form}
use Rattle.code_lowering.specs.Programs.{code_of, tag_code_of, program_of}
use Rattle.code_lowering.proofs.Stands.{HasAt, has_front, has_back, has_all}
use Rattle.code_lowering.proofs.Trees.{SeatOf}

-- the code of nodes stands here, and its end behind it
pub record Returns (cells : List Cell) (at : ℕ) (page : Page) (nodes : Nodes) : Type 0 where
  pub place : Place
  pub has : HasAt cells at (handed_code place (form_code empty_shape (nodes_form page nodes)))

-- the body that a call hands down is the one that it gives
pub data BodySame (cells : List Cell) (page : Page) (at : ℕ) : GivenBody → CallBody → Type 0 where
  same_nothing : BodySame cells page at meaning.nothing body_is.Absent
  same_source : (t : List ℕ) → BodySame cells page at (meaning.source_text t) (body_is.Source t)
  same_code : (nodes : Nodes) (size : ℕ) → Returns cells at page nodes → BodySame cells page at (meaning.body_nodes nodes) (body_is.Cells size)

-- the fragments that a call hands down are those that it gives, one behind the other
pub data FragmentsSame (cells : List Cell) (page : Page) : ℕ → List meaning.Fragment → List code.Fragment → Type 0 where
  no_more : (at : ℕ) → FragmentsSame cells page at [] []
  one_more : (at : ℕ) (name : List ℕ) (nodes : Nodes) (size : ℕ) (fs : List meaning.Fragment) (gs : List code.Fragment) → Returns cells at page nodes → FragmentsSame cells page (at + size) fs gs
      → FragmentsSame cells page at (record { name = name; nodes = nodes } ∷ fs) (record { name = name; size = size } ∷ gs)

-- a seat stands for where nodes run
pub data Same : Here → Seat → Type 0 where
  same_page : (run : Run) → Same (meaning.in_page run) (in_page (program_of run.page) run.params)
  same_tag : (here : Here) (seat : Seat) (call : Called) (b : CallBody) (fs : List code.Fragment) (behind : ℕ) → Same here seat
      → BodySame (seat_code seat) (run_of here).page behind call.body b → FragmentsSame (seat_code seat) (run_of here).page (behind + body_size b) call.fragments fs
      → Same (meaning.in_tag (run_of here) call here)
      (in_tag (record { tag = tag_code_of (run_of here).page call.tag; exports = call.exports; body = b; fragments = fs; behind = behind; frame = call.frame }) seat)

-- a page run for the words that look neither at its nodes nor at its unit
abbrev pub run_stub : Run → Run
run_stub run = record { page = page_of (program_of run.page); params = run.params }

pub run_same : (here : Here) (seat : Seat) → Same here seat → run_of (here_of seat) ≡ run_stub (run_of here)
run_same _ _ (same_page run) = refl
run_same _ _ (same_tag here seat call b fs behind same bs fss) = run_same here seat same

pub program_same : (here : Here) (seat : Seat) → Same here seat → seat_program seat ≡ program_of (run_of here).page
program_same _ _ (same_page run) = refl
program_same _ _ (same_tag here seat call b fs behind same bs fss) = program_same here seat same

strict_same : (here : Here) (seat : Seat) → Same here seat → is_strict (here_of seat) ≡ is_strict here
strict_same _ _ (same_page run) = refl
strict_same _ _ (same_tag here seat call b fs behind same bs fss) = refl

pub seat_of : (here : Here) (seat : Seat) → Same here seat → SeatOf here seat
seat_of here seat same = record { params = ap (λ (r : Run). r.params) (run_same here seat same); strict = strict_same here seat same }

-- a whole code returns
pub whole_returns : (page : Page) (end : Place) (nodes : Nodes) → Returns (code_of page end nodes) 0 page nodes
whole_returns page end nodes = record { place = end; has = has_all (code_of page end nodes) [] }

-- the tag file of a path, as its code
pub tag_same : (page : Page) (path : List ℕ) (list : List TagFile) → tag_at path (map (tag_code_of page) list) ≡ option_map (tag_code_of page) (tags.tag_at path list)
tag_same page path [] = refl
tag_same page path (tag ∷ rest) = go (bytes_eq path tag.path) (tag_same page path rest)
  where
    go : (b : Bool) → tag_at path (map (tag_code_of page) rest) ≡ option_map (tag_code_of page) (tags.tag_at path rest)
        → cond b (Some (tag_code_of page tag)) (tag_at path (map (tag_code_of page) rest)) ≡ option_map (tag_code_of page) (cond b (Some tag) (tags.tag_at path rest))
    go true e = refl
    go false e = e

-- the body that a call hands down
pub body_same : (cells : List Cell) (page : Page) (at : ℕ) (b : Body) (kind : BodyKind) (place : Place) → HasAt cells at (body_code (handed_form page b place kind))
    → BodySame cells page at (tags.body_for kind b) (body_of (handed_form page b place kind))
body_same cells page at no_body body_kind.Scriptless place h = same_nothing
body_same cells page at no_body body_kind.Empty place h = same_nothing
body_same cells page at no_body body_kind.TagDependent place h = same_nothing
body_same cells page at (given_body source nodes) body_kind.TagDependent place h = same_source source
body_same cells page at (given_body source nodes) body_kind.Scriptless place h = same_code nodes _ (record { place = place; has = h })
body_same cells page at (given_body source nodes) body_kind.Empty place h = same_code nodes _ (record { place = place; has = h })

-- the words of the meaning that say which attributes are fragments
abbrev one_fragment : Option meaning.Fragment → List meaning.Fragment
one_fragment (Some f) = f ∷ []
one_fragment None = []

abbrev when_fragment : List ℕ → Nodes → Bool → Option meaning.Fragment
when_fragment name nodes true = Some (record { name = name; nodes = nodes })
when_fragment name nodes false = None

kind_same : (cells : List Cell) (page : Page) (name : List ℕ) (nodes : Nodes) (place : Place) (fs : List meaning.Fragment) (rest : Fragments) (at : ℕ) (b : Bool)
    → HasAt cells at (fragments_code (fragment_if b name (nodes_form page nodes) place rest)) → ((to : ℕ) → HasAt cells to (fragments_code rest) → FragmentsSame cells page to fs (sizes_of rest))
    → FragmentsSame cells page at (one_fragment (when_fragment name nodes b) ++ fs) (sizes_of (fragment_if b name (nodes_form page nodes) place rest))
kind_same cells page name nodes place fs rest at true h others =
    let part = handed_code place (form_code empty_shape (nodes_form page nodes)) in
    one_more at name nodes (length part) fs (sizes_of rest) (record { place = place; has = has_front cells at part (fragments_code rest) h })
    (others (at + length part) (has_back cells at part (fragments_code rest) h))
kind_same cells page name nodes place fs rest at false h others = others at h

declared_same : (cells : List Cell) (page : Page) (name : List ℕ) (nodes : Nodes) (place : Place) (fs : List meaning.Fragment) (rest : Fragments) (at : ℕ) (x : Option AttrDecl)
    → HasAt cells at (fragments_code (with_fragment x name (nodes_form page nodes) place rest)) → ((to : ℕ) → HasAt cells to (fragments_code rest) → FragmentsSame cells page to fs (sizes_of rest))
    → FragmentsSame cells page at (one_fragment (option_and_then (λ (a : AttrDecl). when_fragment name nodes a.fragment) x) ++ fs) (sizes_of (with_fragment x name (nodes_form page nodes) place rest))
declared_same cells page name nodes place fs rest at None h others = others at h
declared_same cells page name nodes place fs rest at (Some a) h others = kind_same cells page name nodes place fs rest at a.fragment h others

-- the fragments that a call hands down
pub fragments_same : (cells : List Cell) (page : Page) (decl : TagDecl) (list : Attributes) (at : ℕ) → HasAt cells at (fragments_code (fragments_form page list decl))
    → FragmentsSame cells page at (tags.fragments_of decl list) (sizes_of (fragments_form page list decl))
fragments_same cells page decl no_attributes at h = no_more at
fragments_same cells page decl (written name parts place rest) at h = fragments_same cells page decl rest at h
fragments_same cells page decl (given name trim nodes place rest) at h =
    declared_same cells page name nodes place (tags.fragments_of decl rest) (fragments_form page rest decl) at (declared name decl.attributes) h (λ to g. fragments_same cells page decl rest to g)

-- what a call gives where it is asked for
pub data GivenSame (cells : List Cell) (page : Page) : GivenBody → Given → Type 0 where
  gives_nothing : GivenSame cells page meaning.nothing nothing
  gives_source : (t : List ℕ) → GivenSame cells page (meaning.source_text t) (source_text t)
  gives_code : (nodes : Nodes) (at : ℕ) → Returns cells at page nodes → GivenSame cells page (meaning.body_nodes nodes) (code_at at)

pub body_gives : (cells : List Cell) (page : Page) (at : ℕ) (g : GivenBody) (b : CallBody) → BodySame cells page at g b → GivenSame cells page g (body_given b at)
body_gives cells page at _ _ same_nothing = gives_nothing
body_gives cells page at _ _ (same_source t) = gives_source t
body_gives cells page at _ _ (same_code nodes size h) = gives_code nodes at h

-- a fragment of a name is found among both
pub data FoundSame (cells : List Cell) (page : Page) : Option meaning.Fragment → Option (List ℕ × ℕ) → Type 0 where
  found_none : FoundSame cells page None None
  found_some : (f : meaning.Fragment) (g : List ℕ × ℕ) → Returns cells g.1 page f.nodes → FoundSame cells page (Some f) (Some g)

found_cond : (cells : List Cell) (page : Page) (b : Bool) (f : meaning.Fragment) (g : List ℕ × ℕ) (x : Option meaning.Fragment) (y : Option (List ℕ × ℕ))
    → Returns cells g.1 page f.nodes → FoundSame cells page x y → FoundSame cells page (cond b (Some f) x) (cond b (Some g) y)
found_cond cells page true f g x y h k = found_some f g h
found_cond cells page false f g x y h k = k

fragment_found : (cells : List Cell) (page : Page) (name : List ℕ) (at : ℕ) (fs : List meaning.Fragment) (gs : List code.Fragment) → FragmentsSame cells page at fs gs
    → FoundSame cells page (find (λ (f : meaning.Fragment). bytes_eq name f.name) fs) (find (λ (f : List ℕ × ℕ). bytes_eq name f.0) (fragments_from at gs))
fragment_found cells page name at _ _ (no_more _) = found_none
fragment_found cells page name at _ _ (one_more _ own nodes size fs gs h rest) =
    found_cond cells page (bytes_eq name own) (record { name = own; nodes = nodes }) (own, at) _ _ h (fragment_found cells page name (at + size) fs gs rest)

-- what the meaning and the table make of what they found
abbrev named_body : Option meaning.Fragment → GivenBody
named_body (Some f) = meaning.body_nodes f.nodes
named_body None = meaning.nothing

abbrev named_code : Option (List ℕ × ℕ) → Given
named_code (Some g) = code_at g.1
named_code None = nothing

found_gives : (cells : List Cell) (page : Page) (x : Option meaning.Fragment) (y : Option (List ℕ × ℕ)) → FoundSame cells page x y → GivenSame cells page (named_body x) (named_code y)
found_gives cells page _ _ found_none = gives_nothing
found_gives cells page _ _ (found_some f g h) = gives_code f.nodes g.1 h

pub fragment_gives : (cells : List Cell) (page : Page) (name : List ℕ) (behind : ℕ) (b : CallBody) (fs : List meaning.Fragment) (gs : List code.Fragment)
    → FragmentsSame cells page (behind + body_size b) fs gs
    → GivenSame cells page (meaning_fragments.fragment_named name fs) (fragment_given name b gs behind)
fragment_gives cells page name behind b fs gs same =
    found_gives cells page (find (λ (f : meaning.Fragment). bytes_eq name f.name) fs) (find (λ (f : List ℕ × ℕ). bytes_eq name f.0) (fragments_from (behind + body_size b) gs))
    (fragment_found cells page name (behind + body_size b) fs gs same)
