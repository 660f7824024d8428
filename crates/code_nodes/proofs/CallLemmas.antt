-- The fragments of a call, one behind the other.
use Rattle.std.proofs.Common.{◌≡◌, ℕ, ◌+◌, ◌<◌, ◌≤◌, Bool, true, false, List, [], ◌∷◌, ◌++◌, length, drop, get_or, Option, Some, None, refl, sym, ap, ◌∙◌, append_assoc}
use Rattle.std.proofs.lemmas.List.{append-nil, drop_all}
use Rattle.page_acts.specs.Views.{acts_row, attribute_before, attributes_of}
use Rattle.page_acts.specs.declared.acts.ActAttribute.{ActAttribute, Written, Given'}
use Rattle.page_code.specs.Shapes.{empty_shape}
use Rattle.page_code.specs.declared.call.Fragment as code
use Rattle.page_code.specs.declared.code.Cell.{Cell}
use Rattle.code_forms.specs.Codes.{form_code, fragments_code, handed_code, sizes_of}
use Rattle.code_forms.specs.Forms.{Form, Fragments, fragment, no_fragments}
use Rattle.code_forms.specs.declared.calling.Handed.{Handed}
use Rattle.code_lowering.specs.Lowering.{fragment_if, fragments_form, nodes_form, with_fragment}
use Rattle.page_meaning.specs.Page.{Page, Part, Nodes, Attributes, no_attributes, written, given}
use Rattle.pg_text.specs.declared.place.Place.{Place}
use Rattle.tag_decl.specs.Declare.{declared}
use Rattle.tag_decl.specs.declared.declaration.AttrDecl.{AttrDecl}
use Rattle.tag_decl.specs.declared.declaration.TagDecl.{TagDecl}
use Rattle.code_nodes.specs.Calls.{is_fragment, with_fragments}
use Rattle.code_nodes.proofs.ListLemmas.{next_of}

-- these fragments and then others
abbrev both_handed : Handed → (first second whole : Fragments) → Type 0
both_handed down first second whole = with_fragments (with_fragments down first) second ≡ with_fragments down whole

-- a body with fragments and their cells
abbrev handed_with : Handed → List code.Fragment → List Cell → Handed
handed_with down fs cells = record { body = down.body; fragments = fs; cells = cells }

handed_as : (down : Handed) (sizes sizes2 : List code.Fragment) (cells cells2 : List Cell) → sizes ≡ sizes2 → cells ≡ cells2 → handed_with down sizes cells ≡ handed_with down sizes2 cells2
handed_as down sizes sizes2 cells cells2 es ec = ap (λ fs. handed_with down fs cells) es ∙ ap (λ cs. handed_with down sizes2 cs) ec

none_before : (down : Handed) (rest : Fragments) → both_handed down no_fragments rest rest
none_before down rest =
    handed_as down _ _ _ _ (ap (λ fs. fs ++ sizes_of rest) (append-nil down.fragments)) (ap (λ cs. cs ++ fragments_code rest) (append-nil down.cells))

one_before : (down : Handed) (d : Option AttrDecl) (name : List ℕ) (part : Form 0 0) (place : Place) (rest : Fragments)
    → both_handed down (with_fragment d name part place no_fragments) rest (with_fragment d name part place rest)
one_before down None name part place rest = none_before down rest
one_before down (Some a) name part place rest = by a.fragment
  where
    by : (b : Bool) → both_handed down (fragment_if b name part place no_fragments) rest (fragment_if b name part place rest)
    by true =
        handed_as down _ _ _ _ (append_assoc down.fragments (sizes_of (fragment name part place no_fragments)) (sizes_of rest))
        (append_assoc down.cells (fragments_code (fragment name part place no_fragments)) (fragments_code rest) ∙ ap (λ cs. down.cells ++ (cs ++ fragments_code rest)) (append-nil _))
    by false = none_before down rest

none_more : (down : Handed) → with_fragments down no_fragments ≡ down
none_more down = handed_as down _ _ _ _ (append-nil down.fragments) (append-nil down.cells)

no_fragment : (d : Option AttrDecl) (name : List ℕ) (part : Form 0 0) (place : Place) (rest : Fragments) → is_fragment d ≡ false → with_fragment d name part place rest ≡ rest
no_fragment None name part place rest isnt = refl
no_fragment (Some a) name part place rest isnt = ap (λ b. fragment_if b name part place rest) isnt

one_fragment : (d : Option AttrDecl) (name : List ℕ) (part : Form 0 0) (place : Place) (rest : Fragments) → is_fragment d ≡ true → with_fragment d name part place rest ≡ fragment name part place rest
one_fragment None name part place rest such = absurd (cc)
one_fragment (Some a) name part place rest such = ap (λ b. fragment_if b name part place rest) such

module _ (page : Page) (decl : TagDecl) where
  abbrev pub fragments_in : Attributes → Fragments
  fragments_in list = fragments_form page list decl

  -- an attribute before others
  pub fragments_step : (down : Handed) (a : ActAttribute) (rest : Attributes) → both_handed down (fragments_in (attribute_before a no_attributes)) (fragments_in rest) (fragments_in (attribute_before a rest))
  fragments_step down (Written name parts place) rest = none_before down (fragments_in rest)
  fragments_step down (Given' name trim s body place) rest =
      one_before down (declared name decl.attributes) name (nodes_form page (acts_row body)) place.now (fragments_in rest)

  -- one attribute more
  pub fragments_from : (total : Handed) (list : List ActAttribute) (i : ℕ) (a : ActAttribute) (down more : Handed) → i < length list → a ≡ get_or list i a
      → more ≡ with_fragments down (fragments_in (attribute_before a no_attributes)) → with_fragments down (fragments_in (attributes_of (drop i list))) ≡ total
      → with_fragments more (fragments_in (attributes_of (drop (i + 1) list))) ≡ total
  fragments_from total list i a down more lt is made whole =
      ap (λ d. with_fragments d (fragments_in (attributes_of (drop (i + 1) list)))) made
      ∙ fragments_step down a (attributes_of (drop (i + 1) list))
      ∙ ap (λ rest. with_fragments down (fragments_in (attributes_of rest))) (sym (next_of list i a lt is)) ∙ whole

  -- no attribute is left
  pub fragments_past : (total : Handed) (list : List ActAttribute) (i : ℕ) (down : Handed) → length list ≤ i → with_fragments down (fragments_in (attributes_of (drop i list))) ≡ total → down ≡ total
  fragments_past total list i down past whole = sym (none_more down) ∙ ap (λ rest. with_fragments down (fragments_in (attributes_of rest))) (sym (drop_all i list past)) ∙ whole

  -- what was written in a start tag is no fragment
  pub written_is : (down : Handed) (a : ActAttribute) (name : List ℕ) (parts : List Part) (place : Place) → attribute_before a no_attributes ≡ written name parts place no_attributes
      → down ≡ with_fragments down (fragments_in (attribute_before a no_attributes))
  written_is down a name parts place is = sym (ap (λ list. with_fragments down (fragments_in list)) is ∙ none_more down)

  -- what isn't declared as one is none
  pub unless_fragment : (down : Handed) (a : ActAttribute) (name : List ℕ) (trim : Bool) (nodes : Nodes) (place : Place)
      → attribute_before a no_attributes ≡ given name trim nodes place no_attributes → is_fragment (declared name decl.attributes) ≡ false
      → down ≡ with_fragments down (fragments_in (attribute_before a no_attributes))
  unless_fragment down a name trim nodes place is isnt =
      sym (ap (λ list. with_fragments down (fragments_in list)) is
      ∙ ap (λ fs. with_fragments down fs) (no_fragment (declared name decl.attributes) name (nodes_form page nodes) place no_fragments isnt) ∙ none_more down)

  -- a fragment more
  pub fragment_is : (down : Handed) (a : ActAttribute) (name copied : List ℕ) (trim : Bool) (nodes : Nodes) (place : Place) (cells : List Cell)
      → attribute_before a no_attributes ≡ given name trim nodes place no_attributes → is_fragment (declared name decl.attributes) ≡ true → copied ≡ name
      → cells ≡ handed_code place (form_code empty_shape (nodes_form page nodes))
      → handed_with down (down.fragments ++ record { name = copied; size = length cells } ∷ []) (down.cells ++ cells) ≡ with_fragments down (fragments_in (attribute_before a no_attributes))
  fragment_is down a name copied trim nodes place cells is such same made =
      ap (λ n. handed_with down (down.fragments ++ record { name = n; size = length cells } ∷ []) (down.cells ++ cells)) same
      ∙ ap (λ cs. handed_with down (down.fragments ++ record { name = name; size = length cs } ∷ []) (down.cells ++ cs)) made
      ∙ ap (λ cs. handed_with down (down.fragments ++ record { name = name; size = length part } ∷ []) (down.cells ++ cs)) (sym (append-nil part))
      ∙ sym (ap (λ list. with_fragments down (fragments_in list)) is
      ∙ ap (λ fs. with_fragments down fs) (one_fragment (declared name decl.attributes) name (nodes_form page nodes) place no_fragments such))
    where
      part : List Cell
      part = handed_code place (form_code empty_shape (nodes_form page nodes))
