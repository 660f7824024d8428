-- The nodes of a file and what is read at its include directives, apart, as the program reads them. No public contract speaks of it.
use Rattle.std.specs.Prelude.{ℕ, List, [], ◌∷◌, ◌++◌}
use Rattle.page_pieces.specs.declared.setting.BroughtPrefixes.{BroughtPrefixes}
use Rattle.page_pieces.specs.Settings.{brought_at}
use Rattle.page_directives.specs.Directive.{Directive}
use Rattle.unit_source.specs.declared.entry.Entry.{Entry}
use Rattle.unit_source.specs.InPlace.{InPlace, done, leaf, element, broken, included, followed}
use Rattle.unit_source.specs.Splice.{Going, Inner, level_within, registered, with_prefixes}

-- what changes how it goes on: prefixes that are registered, or an include directive within so many open elements
pub data Step : Type 0 where
  registers : List (List ℕ) → Step
  includes : ℕ → Directive → Step

-- the steps of nodes in reading order
abbrev pub steps_of : ℕ → InPlace → List Step
steps_of around done = []
steps_of around (leaf kind place next) = registers (registered kind place) ∷ steps_of around next
steps_of around (element opened body next) = steps_of (level_within around) body ++ steps_of around next
steps_of around (broken fault next) = steps_of around next
steps_of around (included d entry body next) = includes around d ∷ steps_of around next

-- what an include directive came to, and the nodes of its file
pub record Found : Type 0 where
  pub entry : Entry
  pub nodes : InPlace

-- what steps come to: what their include directives came to, the names of the included files, and how it goes on
pub record Taken : Type 0 where
  pub found : List Found
  pub names : List (List ℕ)
  pub going : Going

abbrev pub found_in : Inner → Found
found_in inner = record { entry = inner.entry; nodes = inner.nodes }

abbrev pub taken_then : Inner → Taken → Taken
taken_then inner later = record { found = found_in inner ∷ later.found; names = inner.names ++ later.names; going = later.going }

abbrev pub taken : (ℕ → Directive → Going → Inner) → List BroughtPrefixes → List Step → Going → Taken
taken read brought [] going = record { found = []; names = []; going = going }
taken read brought (registers prefixes ∷ steps) going = taken read brought steps (with_prefixes prefixes going)
taken read brought (includes around d ∷ steps) going =
    let inner = read around d going in
    taken_then inner (taken read brought steps (with_prefixes (brought_at d.place.byte brought) inner.going))

-- what steps came to, and then others
abbrev pub both_taken : Taken → Taken → Taken
both_taken one more = record { found = one.found ++ more.found; names = one.names ++ more.names; going = more.going }

-- nodes, and what is left for those behind them
pub record Filled : Type 0 where
  pub nodes : InPlace
  pub left : List Found

abbrev pub filled_by : InPlace → List Found → Filled
filled_by nodes left = record { nodes = nodes; left = left }

abbrev pub leaf_filled : (InPlace → InPlace) → Filled → Filled
leaf_filled before later = filled_by (before later.nodes) later.left

-- the include directives of nodes with what they came to
abbrev pub filled : InPlace → List Found → Filled
filled done found = filled_by done found
filled (leaf kind place next) found = leaf_filled (leaf kind place) (filled next found)
filled (element opened body next) found = let inner = filled body found in leaf_filled (element opened inner.nodes) (filled next inner.left)
filled (broken fault next) found = leaf_filled (broken fault) (filled next found)
filled (included d entry body next) [] = leaf_filled (included d entry body) (filled next [])
filled (included d entry body next) (f ∷ found) = leaf_filled (included d f.entry f.nodes) (filled next found)

-- nodes that are filled, behind others
abbrev pub filled_behind : InPlace → Filled → Filled
filled_behind all more = filled_by (followed all more.nodes) more.left
