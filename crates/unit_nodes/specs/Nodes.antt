-- The nodes of a unit, whatever memory holds them.
use Rattle.std.specs.Prelude.{ℕ, Bool, List}
use Rattle.pg_text.specs.declared.place.Place.{Place}
use Rattle.pg_value.specs.Datum.{Datum}
use Rattle.pg_value.specs.declared.settings.PageSettings.{PageSettings}
use Rattle.el_reader.specs.Tree.{Tree}
use Rattle.jstl_tags.specs.declared.core_name.CoreName.{CoreName}
use Rattle.tag_decl.specs.declared.declaration.TagDecl.{TagDecl}
use Rattle.unit_nodes.specs.declared.jsp_name.JspName.{JspName}

-- a part of a value
pub data Part : Type 0 where
  words : List ℕ → Part
  expression : Tree → Part

pub record Given : Type 0 where
  pub name : List ℕ
  pub parts : List Part
  pub place : Place

-- a standard action, a core tag, or the call of the tag file at a path
pub data ActionKind : Type 0 where
  standard : JspName → ActionKind
  core : CoreName → ActionKind
  call : (path : List ℕ) → ActionKind

-- an action apart from its body; `source` is its body as written
pub record Action : Type 0 where
  pub kind : ActionKind
  pub attributes : List Given
  pub has_body : Bool
  pub source : List ℕ
  pub place : Place

-- nodes, one after the other
pub data Nodes : Type 0 where
  done : Nodes
  template : List ℕ → Place → Nodes → Nodes
  shown : Tree → Place → Nodes → Nodes
  action : Action → Nodes → Nodes → Nodes

-- nodes, and then others
abbrev pub joined : Nodes → Nodes → Nodes
joined done others = others
joined (template text place next) others = template text place (joined next others)
joined (shown tree place next) others = shown tree place (joined next others)
joined (action a body next) others = action a body (joined next others)

pub record TagFile : Type 0 where
  pub path : List ℕ
  pub decl : TagDecl
  pub settings : PageSettings
  pub nodes : Nodes

-- a page with the tag files and the beans that it uses
pub record Page : Type 0 where
  pub path : List ℕ
  pub nodes : Nodes
  pub settings : PageSettings
  pub tags : List TagFile
  pub beans : List (List ℕ × Datum)
