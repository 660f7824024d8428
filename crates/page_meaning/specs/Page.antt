-- What a page is, whatever memory holds it: its nodes, and what its unit brings.
use Rattle.std.specs.Prelude.{ℕ, Bool, List, Option}
use Rattle.pg_text.specs.declared.place.Place.{Place}
use Rattle.pg_value.specs.Datum.{Datum}
use Rattle.pg_value.specs.declared.settings.PageSettings.{PageSettings}
use Rattle.el_reader.specs.Tree.{Tree}
use Rattle.pg_value.specs.declared.scope.Scope.{Scope}
use Rattle.tag_decl.specs.declared.declaration.TagDecl.{TagDecl}

-- a variable that an action names, with its scope where one is given
pub record Variable : Type 0 where
  pub name : List ℕ
  pub scope : Option Scope

-- what `jsp:setProperty` sets: all properties, or one, which may come from a parameter
pub data Property : Type 0 where
  every : Property
  one : (property parameter : List ℕ) → Property

-- a part of an attribute's value
pub data Part : Type 0 where
  words : List ℕ → Part
  expression : Tree → Part

mutual
  -- a node: template text, a tag, an action or the call of a tag file, with its place
  pub data Node : Type 0 where
    -- template text, and an expression in it
    template : List ℕ → Place → Node
    shown : Tree → Place → Node
    -- the core tags
    out : Attributes → Nodes → Place → Node
    set : Variable → Attributes → Nodes → Place → Node
    set_entry : (target : List ℕ) → Attributes → Nodes → Place → Node
    remove : Variable → Place → Node
    catch : Option (List ℕ) → Nodes → Place → Node
    when_true : Option Variable → Attributes → Nodes → Place → Node
    choose : Branches → Place → Node
    each : (variable status : Option (List ℕ)) → Attributes → Nodes → Place → Node
    each_token : (variable status : Option (List ℕ)) → Attributes → Nodes → Place → Node
    import : Option Variable → Attributes → Params → Place → Node
    url : Option Variable → Attributes → Params → Place → Node
    redirect : Attributes → Params → Place → Node
    -- the standard actions
    include : (flush : Bool) → Attributes → Params → Place → Node
    forward : Attributes → Params → Place → Node
    use_bean : (name : List ℕ) → Scope → (class : List ℕ) → Nodes → Place → Node
    get_property : (name property : List ℕ) → Place → Node
    set_property : (name : List ℕ) → Property → Attributes → Place → Node
    group : Nodes → Place → Node
    do_body : Option Variable → Place → Node
    invoke : (fragment : List ℕ) → Option Variable → Place → Node
    -- the call of a tag file
    call : (path : List ℕ) → Attributes → Body → Place → Node

  -- nodes in order
  pub data Nodes : Type 0 where
    no_nodes : Nodes
    more_nodes : Node → Nodes → Nodes

  -- attributes in the order in which they are evaluated: those of the start tag, and then those that `jsp:attribute` gives
  pub data Attributes : Type 0 where
    no_attributes : Attributes
    written : (name : List ℕ) → List Part → Place → Attributes → Attributes
    given : (name : List ℕ) → (trim : Bool) → Nodes → Place → Attributes → Attributes

  -- the params of an include, a forward or a url, each with its attributes and its body
  pub data Params : Type 0 where
    no_params : Params
    param : Attributes → Nodes → Place → Params → Params

  -- the branches of a choice
  pub data Branches : Type 0 where
    no_branches : Branches
    when : Attributes → Nodes → Place → Branches → Branches
    otherwise : Nodes → Place → Branches → Branches

  -- the body of the call of a tag file, with its source text
  pub data Body : Type 0 where
    no_body : Body
    given_body : (source : List ℕ) → Nodes → Body

-- a tag file
pub record TagFile : Type 0 where
  pub path : List ℕ
  pub decl : TagDecl
  pub settings : PageSettings
  pub nodes : Nodes

-- a page with the tag files and the beans of its unit
pub record Page : Type 0 where
  pub path : List ℕ
  pub nodes : Nodes
  pub settings : PageSettings
  pub tags : List TagFile
  pub beans : List (List ℕ × Datum)

-- where the faults of a node stand that has no place of its own for them
abbrev pub place_of : Node → Place
place_of (template _ place) = place
place_of (shown _ place) = place
place_of (out _ _ place) = place
place_of (set _ _ _ place) = place
place_of (set_entry _ _ _ place) = place
place_of (remove _ place) = place
place_of (catch _ _ place) = place
place_of (when_true _ _ _ place) = place
place_of (choose _ place) = place
place_of (each _ _ _ _ place) = place
place_of (each_token _ _ _ _ place) = place
place_of (import _ _ _ place) = place
place_of (url _ _ _ place) = place
place_of (redirect _ _ place) = place
place_of (include _ _ _ place) = place
place_of (forward _ _ place) = place
place_of (use_bean _ _ _ _ place) = place
place_of (get_property _ _ place) = place
place_of (set_property _ _ _ place) = place
place_of (group _ place) = place
place_of (do_body _ place) = place
place_of (invoke _ _ place) = place
place_of (call _ _ _ place) = place
