-- What directives said first, as the program keeps it.
use Rattle.std.specs.Prelude.{◌≡◌, ℕ, List, [], ◌∷◌, codes, Option, Some, None, ◌≤◌, ◌<◌, ◌+◌, Bool, true, false, length, take, if◌then◌else◌}
use Rattle.std.specs.Borrow.{Bor}
use Rattle.std.specs.BTreeMap.{BTreeMap, get}
use Rattle.std.specs.Cmp.Lexicographic.{slice_cmp}
use Rattle.std.specs.Option.{option_map}
use Rattle.std.specs.Ordering.{nat_cmp}
use Rattle.std.specs.Str.{bytes_eq}
use Rattle.std.specs.declared.cmp.Ordering.{Ordering}
use Rattle.page_pieces.specs.declared.attribute.Attribute.{Attribute}
use Rattle.page_directives.specs.declared.known.Known.{Known}
use Rattle.page_directives.specs.declared.target.Target.{Target}
use Rattle.page_directives.specs.Directive.{Directive}
use Rattle.page_directives.specs.Settings.{given, is_unbuffered}
use Rattle.page_directives.specs.Taglibs.{target_of}

-- the order of texts in a map
abbrev pub text_order : Bor (List ℕ) → Bor (List ℕ) → Ordering
text_order x y = slice_cmp nat_cmp x.now y.now

-- the first attribute of a name
abbrev pub first_named : List ℕ → List Attribute → Option Attribute
first_named name [] = None
first_named name (a ∷ attributes) = if bytes_eq a.name name then Some a else first_named name attributes

-- the map has the first of these attributes under each name
abbrev pub HasFirst : BTreeMap (Bor (List ℕ)) (Bor Attribute) → List Attribute → Type 0
HasFirst map attributes = (name : Bor (List ℕ)) → option_map (λ a. a.now) (get text_order map name) ≡ first_named name.now attributes

-- the map has what each prefix stands for behind these directives
abbrev pub HasTargets : BTreeMap (Bor (List ℕ)) Target → List Directive → Type 0
HasTargets map directives = (prefix : Bor (List ℕ)) → get text_order map prefix ≡ target_of prefix.now directives

-- the maps are those of these directives
pub record IsKnown (known : Known) (directives : List Directive) : Type 0 where
  pub page : HasFirst known.page (given (codes "page") directives)
  pub tag : HasFirst known.tag (given (codes "tag") directives)
  pub targets : HasTargets known.targets directives

-- behind so many directives of a first reading, and not before, these have decided that there is neither a buffer nor flushing: behind all where they don't
pub record IsTurn (in_tag : Bool) (first : List Directive) (turn : ℕ) : Type 0 where
  pub within : turn ≤ length first
  pub before : is_unbuffered in_tag (take turn first) ≡ false
  pub behind : turn < length first → is_unbuffered in_tag (take (turn + 1) first) ≡ true
