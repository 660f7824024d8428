-- The form of each kind of node.
use Rattle.std.specs.Prelude.{ℕ, suc, Bool, true, false, List, [], ◌∷◌, codes, length, Option, Some, None}
use Rattle.std.specs.List.{list_any}
use Rattle.std.specs.Str.{bytes_eq}
use Rattle.el_ops.specs.Indexing.{or_null}
use Rattle.page_code.specs.declared.op.Op.TheVariants as op
use Rattle.page_code.specs.declared.operands.Coercion.TheVariants as coercion
use Rattle.page_code.specs.declared.operands.LoopKind.{LoopKind}
use Rattle.page_code.specs.declared.operands.Over.{Over}
use Rattle.page_code.specs.declared.operands.Over.TheVariants as over
use Rattle.page_code.specs.declared.operands.PropertyMode.TheVariants as mode
use Rattle.page_code.specs.declared.operands.ScopedName.{ScopedName}
use Rattle.page_meaning.specs.Attributes.{Coercion, coercion_in, evaluated_names}
use Rattle.page_meaning.specs.Beans.{value_place}
use Rattle.page_meaning.specs.Coercions.{out_coercions, set_coercions, test_coercions, each_coercions, token_coercions, url_coercions, param_coercions, page_coercions}
use Rattle.page_meaning.specs.Page.{Page, TagFile, Variable, Property, every, one, Node, template, shown, out, set, set_entry, remove, catch, when_true, choose, each, each_token, import, url, redirect, include, forward, use_bean, get_property, set_property, group, do_body, invoke, call, Nodes, no_nodes, more_nodes, Attributes, no_attributes, written, given, Params, no_params, param, Branches, no_branches, when, otherwise, Body, no_body, given_body, place_of}
use Rattle.page_meaning.specs.Tags.{tag_at, tag_coercion}
use Rattle.page_meaning.specs.Variables.{scope_or_page}
use Rattle.pg_text.specs.declared.place.Place.{Place}
use Rattle.pg_value.specs.Attrs.{entry_at}
use Rattle.pg_value.specs.Datum.{Datum, text, truth}
use Rattle.pg_value.specs.Value.{value_of}
use Rattle.pg_value.specs.declared.scope.Scope.{Scope}
use Rattle.pg_value.specs.declared.scope.Scope.TheVariants as scope
use Rattle.tag_decl.specs.Declare.{declared}
use Rattle.tag_decl.specs.declared.declaration.AttrDecl.{AttrDecl}
use Rattle.tag_decl.specs.declared.declaration.BodyKind.{BodyKind}
use Rattle.tag_decl.specs.declared.declaration.BodyKind.TheVariants as body_kind
use Rattle.tag_decl.specs.declared.declaration.TagDecl.{TagDecl}
use Rattle.code_lowering.specs.Expressions.{visits, constant, coerces, first_visits, value_form}
use Rattle.code_forms.specs.Forms.{Form, nothing, both, above, counted, does, arranged, swapped, kept, chosen, where_null, ensured, looped, caught, own_body, own_fragment, included_page, imported_page, calls, calls_tag, forwards_to, redirects_to, Handed, nothing_handed, source_handed, code_handed, Fragments, no_fragments, fragment, twice, address_is}
use Rattle.code_lowering.specs.Values.{parts_form, kept_form, with_value}

-- whether a name is among names
abbrev pub has : List ℕ → List (List ℕ) → Bool
has name names = list_any (bytes_eq name) names

-- a variable of a scope
abbrev pub scoped : Scope → List ℕ → ScopedName
scoped sc name = record { scope = sc; name = name }

-- sets a variable to the value on top
abbrev pub sets : Place → Variable → Form 1 0
sets place x = does (op.SetVar (scoped (scope_or_page x.scope) x.name)) place

-- removes a variable of the scope that is given, or else of all
abbrev pub removes : Place → Option Scope → List ℕ → Form 0 0
removes place (Some sc) name = does (op.RemoveVar (scoped sc name)) place
removes place None name = does (op.RemoveAll name) place

-- sets a variable, where one is given
abbrev pub sets_given : Place → Option Variable → Datum → Form 0 0
sets_given place (Some x) d = both (constant place d) (sets place x)
sets_given place None d = nothing

-- what a part writes, or its text in a variable where one is given
abbrev pub kept_in : {n : ℕ} → Place → Option Variable → Form n 0 → Form n 0
kept_in place None part = part
kept_in place (Some x) part = both (kept part place) (sets place x)

-- one where it is so
abbrev pub one_if : Bool → ℕ
one_if true = 1
one_if false = 0

-- writes the text on top, below which stands whether it is escaped, where that is given
abbrev pub puts : Place → (escape : Bool) → Form (suc (one_if escape)) 0
puts place true = both (swapped place) (chosen (does op.PutEscaped place) (does op.Put place) place)
puts place false = does op.PutEscaped place

-- the same of a text below which it doesn't stand, but above which it does
abbrev pub puts_default : Place → (escape : Bool) → Form (suc (one_if escape)) 0
puts_default place true = chosen (does op.PutEscaped place) (does op.Put place) place
puts_default place false = does op.PutEscaped place

-- writes the trimmed text of a body
abbrev pub puts_body : Place → (escape : Bool) → (body : Form 0 0) → Form (one_if escape) 0
puts_body place true body = both (above 1 (kept_form place true body)) (puts place true)
puts_body place false body = both (kept_form place true body) (puts place false)

-- the attributes that `c:out` wants, where it is known which were given
abbrev pub out_wanted : (default escape : Bool) → List (List ℕ)
out_wanted true true = codes "default" ∷ codes "escapeXml" ∷ codes "value" ∷ []
out_wanted true false = codes "default" ∷ codes "value" ∷ []
out_wanted false true = codes "escapeXml" ∷ codes "value" ∷ []
out_wanted false false = codes "value" ∷ []

-- `c:out`: the value, or where that is null the default, or else the body
abbrev pub out_form : Place → (default escape : Bool) → (body : Form 0 0) → Form (length (out_wanted default escape)) 0
out_form place true true body = where_null (puts_default place true) (both (above 1 (puts place true)) (does op.Pop place)) place
out_form place true false body = where_null (puts_default place false) (both (above 1 (puts place false)) (does op.Pop place)) place
out_form place false true body = where_null (puts_body place true body) (puts place true) place
out_form place false false body = where_null (puts_body place false body) (puts place false) place

-- the value that was given, or else the trimmed body
abbrev pub value_or_body : Place → (has_value : Bool) → (names : List (List ℕ)) → (body : Form 0 0) → Form (length names) 1
value_or_body place true names body = arranged (codes "value" ∷ []) names place
value_or_body place false names body = both (arranged [] names place) (kept_form place true body)

-- the same above another value
abbrev pub with_value_or_body : Place → (first : List ℕ) → (has_value : Bool) → (names : List (List ℕ)) → (body : Form 0 0) → Form (length names) 2
with_value_or_body place first true names body = arranged (first ∷ codes "value" ∷ []) names place
with_value_or_body place first false names body = both (arranged (first ∷ []) names place) (above 1 (kept_form place true body))

-- sets a variable to the value on top; null removes it, in all scopes where none is given
abbrev pub sets_or_removes : Place → Option Scope → List ℕ → Form 1 0
sets_or_removes place (Some sc) name = does (op.SetVar (scoped sc name)) place
sets_or_removes place None name = where_null (does (op.RemoveAll name) place) (does (op.SetVar (scoped scope.Page name)) place) place

-- keeps the record of a fault in the variable of a catch, where it has one
abbrev pub keeps_fault : Place → Option (List ℕ) → Form 1 0
keeps_fault place None = does op.Pop place
keeps_fault place (Some name) = does (op.SetVar (scoped scope.Page name)) place

-- a loop with the values of these names
abbrev pub loop_kind : Over → (names : List (List ℕ)) → (variable status : Option (List ℕ)) → LoopKind
loop_kind o names variable status = record { over = o; names = names; variable = variable; status = status }

-- the url of a tag: its address with params
abbrev pub url_form : Place → (names : List (List ℕ)) → (address : List ℕ) → (params : ℕ) → Form 0 (twice params) → Form (length names) 1
url_form place names address n params =
    both (both (arranged (address ∷ []) names place) (above 1 params)) (both (counted (address_is n) nothing) (does (op.Url n) place))

-- a page's address with params
abbrev pub page_form : Place → (names : List (List ℕ)) → (params : ℕ) → Form 0 (twice params) → Form (length names) (suc (twice params))
page_form place names n params = both (arranged (codes "page" ∷ []) names place) (above 1 params)

-- writes the text of a url, or sets a variable to it
abbrev pub url_put : Place → Option Variable → Form 1 0
url_put place None = does op.Put place
url_put place (Some x) = sets place x

-- sets the properties of a bean
abbrev pub property_form : Place → (name : List ℕ) → Property → (value_place : Place) → (has_value : Bool) → (names : List (List ℕ)) → Form (length names) 0
property_form place name every vp has_value names = both (arranged [] names place) (does (op.SetProperty name mode.Parameters) place)
property_form place name (one property parameter) vp true names =
    both (arranged (codes "value" ∷ []) names place) (does (op.SetProperty name (mode.Value property vp)) place)
property_form place name (one property parameter) vp false names = both (arranged [] names place) (does (op.SetProperty name (mode.Parameter property parameter)) place)

-- the bean of a class
abbrev pub bean_of : Page → List ℕ → Datum
bean_of page class = or_null (entry_at class page.beans)

-- the body that a call hands down: its source text to a tag file that takes that
abbrev pub handed_by : BodyKind → (source : List ℕ) → Form 0 0 → Place → Handed
handed_by body_kind.TagDependent source part place = source_handed source
handed_by body_kind.Scriptless source part place = code_handed part place
handed_by body_kind.Empty source part place = code_handed part place

-- a fragment before the others, where it is so
abbrev pub fragment_if : Bool → (name : List ℕ) → Form 0 0 → Place → Fragments → Fragments
fragment_if true name part place rest = fragment name part place rest
fragment_if false name part place rest = rest

-- a fragment before the others, where the attribute is declared as one
abbrev pub with_fragment : Option AttrDecl → (name : List ℕ) → Form 0 0 → Place → Fragments → Fragments
with_fragment None name part place rest = rest
with_fragment (Some a) name part place rest = fragment_if a.fragment name part place rest

-- what becomes of an attribute of a tag file
abbrev pub coercion_by : TagFile → List ℕ → Coercion
coercion_by tag name = tag_coercion (declared name tag.decl.attributes)

-- the call of the tag file at a path, where the unit has it
abbrev pub tag_form :
    Place → (path : List ℕ) → Option TagFile → (list : Attributes) → (values : (c : List ℕ → Coercion) → Form 0 (length (evaluated_names c list))) → (handed : BodyKind → Handed) → (fragments : TagDecl → Fragments)
    → Form 0 0
tag_form place path None list values handed fragments = nothing
tag_form place path (Some tag) list values handed fragments =
    both (values (coercion_by tag)) (calls_tag path (evaluated_names (coercion_by tag) list) (handed tag.decl.body) (fragments tag.decl) place)

-- the names of the attributes that an action evaluates
abbrev pub names_in : List (List ℕ × Coercion) → Attributes → List (List ℕ)
names_in table list = evaluated_names (coercion_in table) list

abbrev pub param_count : Params → ℕ
param_count no_params = 0
param_count (param list body place rest) = suc (param_count rest)

-- the visits before a node: its own, and the first ones of the expression that it shows
abbrev pub node_visits : Node → ℕ
node_visits (shown e place) = suc (first_visits e)
node_visits other = 1

abbrev mutual
  -- a node behind those visits, in the unit of a page
  pub node_form : Page → Node → Form 0 0
  node_form page (template t place) = does (op.Write t) place
  node_form page (shown e place) = both (value_form place e) (both (coerces coercion.Text place) (does op.Put place))
  node_form page (out list body place) =
      let names = names_in out_coercions list in
      both (attributes_form page list (coercion_in out_coercions))
      (both (arranged (out_wanted (has (codes "default") names) (has (codes "escapeXml") names)) names place)
      (out_form place (has (codes "default") names) (has (codes "escapeXml") names) (nodes_form page body)))
  node_form page (set x list body place) =
      let names = names_in set_coercions list in
      both (attributes_form page list (coercion_in set_coercions)) (both (value_or_body place (has (codes "value") names) names (nodes_form page body)) (sets_or_removes place x.scope x.name))
  node_form page (set_entry target list body place) =
      let names = names_in set_coercions list in
      both (attributes_form page list (coercion_in set_coercions))
      (both (with_value_or_body place (codes "property") (has (codes "value") names) names (nodes_form page body)) (does (op.SetProperty target mode.Entry) place))
  node_form page (remove x place) = removes place x.scope x.name
  node_form page (catch x body place) = caught (nodes_form page body) (keeps_fault place x) place
  node_form page (when_true x list body place) =
      both (attributes_form page list (coercion_in test_coercions))
      (both (arranged (codes "test" ∷ []) (names_in test_coercions list) place)
      (chosen (both (sets_given place x (truth true)) (nodes_form page body)) (sets_given place x (truth false)) place))
  node_form page (choose branches place) = branches_form page branches
  node_form page (each x status list body place) =
      both (attributes_form page list (coercion_in each_coercions)) (looped (loop_kind over.Items (names_in each_coercions list) x status) (nodes_form page body) place)
  node_form page (each_token x status list body place) =
      both (attributes_form page list (coercion_in token_coercions)) (looped (loop_kind over.Tokens (names_in token_coercions list) x status) (nodes_form page body) place)
  node_form page (import x list params place) =
      both (attributes_form page list (coercion_in url_coercions))
      (both (url_form place (names_in url_coercions list) (codes "url") (param_count params) (params_form page params)) (kept_in place x (calls imported_page place)))
  node_form page (url x list params place) =
      both (attributes_form page list (coercion_in url_coercions))
      (both (url_form place (names_in url_coercions list) (codes "value") (param_count params) (params_form page params)) (url_put place x))
  node_form page (redirect list params place) =
      both (attributes_form page list (coercion_in url_coercions))
      (both (url_form place (names_in url_coercions list) (codes "url") (param_count params) (params_form page params)) (redirects_to place))
  node_form page (include flush list params place) =
      both (attributes_form page list (coercion_in page_coercions))
      (both (page_form place (names_in page_coercions list) (param_count params) (params_form page params))
      (both (counted (address_is (param_count params)) nothing) (calls (included_page flush (param_count params)) place)))
  node_form page (forward list params place) =
      both (attributes_form page list (coercion_in page_coercions))
      (both (page_form place (names_in page_coercions list) (param_count params) (params_form page params))
      (both (counted (address_is (param_count params)) nothing) (forwards_to (param_count params) place)))
  node_form page (use_bean name sc class body place) = ensured (scoped sc name) (value_of (bean_of page class)) (nodes_form page body) place
  node_form page (get_property name property place) =
      both (constant place (text property)) (both (does (op.GetProperty name) place) (both (coerces coercion.Text place) (does op.Put place)))
  node_form page (set_property name property list place) =
      both (attributes_form page list (coercion_in [])) (property_form place name property (value_place list place) (has (codes "value") (names_in [] list)) (names_in [] list))
  node_form page (group body place) = nodes_form page body
  node_form page (do_body x place) = kept_in place x (calls own_body place)
  node_form page (invoke name x place) = kept_in place x (calls (own_fragment name) place)
  node_form page (call path list b place) =
      tag_form place path (tag_at path page.tags) list (attributes_form page list) (handed_form page b place) (fragments_form page list)

  -- nodes one after the other, each behind its visits
  pub nodes_form : Page → Nodes → Form 0 0
  nodes_form page no_nodes = nothing
  nodes_form page (more_nodes node rest) = both (both (visits (node_visits node) (place_of node)) (node_form page node)) (nodes_form page rest)

  -- the values of the attributes that are evaluated, in order
  pub attributes_form : Page → (list : Attributes) → (c : List ℕ → Coercion) → Form 0 (length (evaluated_names c list))
  attributes_form page no_attributes c = nothing
  attributes_form page (written name parts place rest) c =
      with_value (c name) name (evaluated_names c rest) place (parts_form place parts) (attributes_form page rest c)
  attributes_form page (given name trim nodes place rest) c =
      with_value (c name) name (evaluated_names c rest) place (both (visits 1 place) (kept_form place trim (nodes_form page nodes))) (attributes_form page rest c)

  -- the names and values of params, in order, each behind its visit
  pub params_form : Page → (params : Params) → Form 0 (twice (param_count params))
  params_form page no_params = nothing
  params_form page (param list body place rest) =
      both (both (visits 1 place) (both (attributes_form page list (coercion_in param_coercions))
      (with_value_or_body place (codes "name") (has (codes "value") (names_in param_coercions list)) (names_in param_coercions list) (nodes_form page body))))
      (above 2 (params_form page rest))

  -- the first branch whose test is true; each test behind its visit
  pub branches_form : Page → Branches → Form 0 0
  branches_form page no_branches = nothing
  branches_form page (when list body place rest) =
      both (visits 1 place) (both (attributes_form page list (coercion_in test_coercions))
      (both (arranged (codes "test" ∷ []) (names_in test_coercions list) place) (chosen (nodes_form page body) (branches_form page rest) place)))
  branches_form page (otherwise body place rest) = both (visits 1 place) (nodes_form page body)

  -- the body of a call
  pub handed_form : Page → Body → Place → BodyKind → Handed
  handed_form page no_body place kind = nothing_handed
  handed_form page (given_body source nodes) place kind = handed_by kind source (nodes_form page nodes) place

  -- the fragments among the attributes of a call
  pub fragments_form : Page → Attributes → TagDecl → Fragments
  fragments_form page no_attributes decl = no_fragments
  fragments_form page (written name parts place rest) decl = fragments_form page rest decl
  fragments_form page (given name trim nodes place rest) decl =
      with_fragment (declared name decl.attributes) name (nodes_form page nodes) place (fragments_form page rest decl)
