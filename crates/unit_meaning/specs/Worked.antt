-- Worked shapes: what an action of a unit is as a node.
use Rattle.std.specs.Prelude.{◌≡◌, ℕ, List, [], ◌∷◌, codes, true, false, Some, None}
use Rattle.el_reader.specs.Tree as tree
use Rattle.unit_nodes.specs.CoreName.TheVariants as core
use Rattle.page_meaning.specs.Page as page
use Rattle.unit_meaning.specs.Shape.{nodes_of}
use Rattle.pg_text.specs.declared.place.Place.{Place}
use Rattle.pg_value.specs.declared.scope.Scope.TheVariants as scope
use Rattle.unit_nodes.specs.Nodes as unit
use Rattle.unit_nodes.specs.Nodes.{ActionKind, Given, Nodes}
use Rattle.unit_nodes.specs.declared.jsp_name.JspName.TheVariants as jsp

-- a column of the first line of `/a.jsp`
abbrev pub column : ℕ → Place
column n = record { file = codes "/a.jsp"; byte = 0; line = 1; column = n }

-- an attribute of text alone
abbrev pub with_text : (name value : List ℕ) → ℕ → Given
with_text name value n = record { name = name; parts = unit.words value ∷ []; place = column n }

-- an action alone
abbrev pub alone : ActionKind → List Given → (source : List ℕ) → Nodes → ℕ → Nodes → Nodes
alone kind attributes source body n next = unit.action (record { kind = kind; attributes = attributes; has_body = true; source = source; place = column n }) body next

-- `c:url` with a param: its variable is no attribute that is evaluated, and the param is no node
abbrev pub UrlWithParam : Type 0
UrlWithParam =
    nodes_of (alone (unit.core core.Url) (with_text (codes "value") (codes "/x") 2 ∷ with_text (codes "var") (codes "u") 3 ∷ []) []
    (alone (unit.core core.Param) (with_text (codes "name") (codes "n") 5 ∷ with_text (codes "value") (codes "v") 6 ∷ []) [] unit.done 4 unit.done) 1 unit.done)
    ≡ page.more_nodes
    (page.url (Some (record { name = codes "u"; scope = None })) (page.written (codes "value") (page.words (codes "/x") ∷ []) (column 2) page.no_attributes)
    (page.param
    (page.written (codes "name") (page.words (codes "n") ∷ []) (column 5) (page.written (codes "value") (page.words (codes "v") ∷ []) (column 6) page.no_attributes))
    page.no_nodes (column 4) page.no_params)
    (column 1)) page.no_nodes

-- `c:choose` whose branch stands in `jsp:body`: its branch all the same
abbrev pub ChoiceInBody : Type 0
ChoiceInBody =
    nodes_of (alone (unit.core core.Choose) [] (codes "whole")
    (alone (unit.standard jsp.Body) [] (codes "held")
    (alone (unit.core core.When) (with_text (codes "test") (codes "true") 4 ∷ []) (codes "x") (unit.template (codes "x") (column 5) unit.done) 3 unit.done) 2 unit.done) 1 unit.done)
    ≡ page.more_nodes
    (page.choose
    (page.when (page.written (codes "test") (page.words (codes "true") ∷ []) (column 4) page.no_attributes) (page.more_nodes (page.template (codes "x") (column 5)) page.no_nodes) (column 3) page.no_branches)
    (column 1)) page.no_nodes

-- a call with `jsp:attribute` and `jsp:body`: the one is an attribute behind those that were written, the other the call's body with its source
abbrev pub SplitCall : Type 0
SplitCall =
    nodes_of (alone (unit.call (codes "/WEB-INF/tags/t.tag")) (with_text (codes "a") (codes "1") 2 ∷ []) (codes "whole")
    (alone (unit.standard jsp.Attribute) (with_text (codes "name") (codes "b") 4 ∷ with_text (codes "trim") (codes "false") 5 ∷ []) (codes " x") (unit.template (codes " x") (column 6) unit.done) 3
    (alone (unit.standard jsp.Body) [] (codes "y") (unit.template (codes "y") (column 8) unit.done) 7 unit.done)) 1 unit.done)
    ≡ page.more_nodes
    (page.call (codes "/WEB-INF/tags/t.tag")
    (page.written (codes "a") (page.words (codes "1") ∷ []) (column 2)
    (page.given (codes "b") false (page.more_nodes (page.template (codes " x") (column 6)) page.no_nodes) (column 3) page.no_attributes))
    (page.given_body (codes "y") (page.more_nodes (page.template (codes "y") (column 8)) page.no_nodes))
    (column 1)) page.no_nodes

-- `c:set` of a variable of request scope, and of an entry of the record that an expression names
abbrev pub SetsOfBothKinds : Type 0
SetsOfBothKinds =
    nodes_of (alone (unit.core core.Set) (with_text (codes "var") (codes "x") 2 ∷ with_text (codes "scope") (codes "request") 3 ∷ []) [] (unit.template (codes "v") (column 4) unit.done) 1
    (alone (unit.core core.Set) (record { name = codes "target"; parts = unit.expression (tree.name (codes "r")) ∷ []; place = column 6 } ∷ with_text (codes "property") (codes "p") 7 ∷ []) []
    unit.done 5 unit.done))
    ≡ page.more_nodes
    (page.set (record { name = codes "x"; scope = Some scope.Request }) page.no_attributes (page.more_nodes (page.template (codes "v") (column 4)) page.no_nodes) (column 1))
    (page.more_nodes
    (page.set_entry (codes "r") (page.written (codes "property") (page.words (codes "p") ∷ []) (column 7) page.no_attributes) page.no_nodes (column 5)) page.no_nodes)
