-- A page or a tag file, read twice.
use Rattle.std.specs.Prelude.{ℕ, Bool, List, [], ◌++◌, Option, length}
use Rattle.std.specs.Option.{option_map}
use Rattle.pg_value.specs.declared.settings.PageSettings.{PageSettings}
use Rattle.page_directives.specs.Directive.{Directive}
use Rattle.page_directives.specs.Settings.{settings_of}
use Rattle.unit_source.specs.Files.{Files}
use Rattle.unit_source.specs.First.{First, first_within, most_deep}
use Rattle.unit_source.specs.InPlace.{InPlace, all_directives}
use Rattle.unit_source.specs.Splice.{Spliced, spliced_within}
use Rattle.unit_source.specs.Volume.{one_file}

pub record Root : Type 0 where
  pub path : List ℕ
  pub in_tag : Bool
  pub bytes : ℕ
  -- the directives of the first reading in reading order, and the settings that they decide
  pub first : List Directive
  pub settings : PageSettings
  -- the nodes with includes in place, and their directives in reading order
  pub nodes : InPlace
  pub directives : List Directive
  -- the names of the files that either reading includes
  pub names : List (List ℕ)

abbrev pub root_of : (path text : List ℕ) → Bool → First → PageSettings → Spliced → Root
root_of path text in_tag first settings second = record {
  path = path;
  in_tag = in_tag;
  bytes = length text;
  first = first.directives;
  settings = settings;
  nodes = second.nodes;
  directives = all_directives second.nodes;
  names = first.names ++ second.names;
}

-- the second reading under these settings
abbrev pub second_reading : Files → PageSettings → (path text : List ℕ) → Spliced
second_reading files settings path text = spliced_within most_deep files settings [] 0 path text (record { prefixes = []; volume = one_file (length text) })

abbrev pub with_second : Files → Bool → (path text : List ℕ) → First → PageSettings → Root
with_second files in_tag path text first settings = root_of path text in_tag first settings (second_reading files settings path text)

abbrev pub with_first : Files → Bool → (path text : List ℕ) → First → Root
with_first files in_tag path text first = with_second files in_tag path text first (settings_of in_tag first.directives)

-- the page or tag file with this text, read twice
unfoldable pub rooted : Files → (in_tag : Bool) → (path text : List ℕ) → Root
rooted files in_tag path text = with_first files in_tag path text (first_within most_deep files [] (one_file (length text)) path text)

-- the page or tag file at a path, where there is one
abbrev pub root_at : Files → (in_tag : Bool) → (path : List ℕ) → Option Root
root_at files in_tag path = option_map (rooted files in_tag path) (files path)
