-- The second reading: a page or a tag file with its includes in place, under the settings that the first reading decided.
use Rattle.std.specs.Prelude.{ℕ, zero, suc, ◌+◌, Bool, true, false, List, [], ◌∷◌, ◌++◌, codes, Option, Some, None, length, nat_le, if◌then◌else◌}
use Rattle.std.specs.Option.{is_some, option_to_list}
use Rattle.pg_text.specs.declared.place.PageFault.{PageFault}
use Rattle.pg_text.specs.declared.place.Place.{Place}
use Rattle.pg_value.specs.declared.settings.PageSettings.{PageSettings}
use Rattle.page_pieces.specs.declared.piece.Leaf.{Leaf}
use Rattle.page_pieces.specs.declared.piece.Leaf.TheVariants as leaves
use Rattle.page_pieces.specs.declared.setting.BroughtPrefixes.{BroughtPrefixes}
use Rattle.page_pieces.specs.declared.setting.Setting.{Setting}
use Rattle.page_pieces.specs.Settings.{brought_at, contains_text, value_of}
use Rattle.page_reader.specs.PageText.{page_text}
use Rattle.page_reader.specs.Trees.{Opened}
use Rattle.page_directives.specs.Directive.{Directive}
use Rattle.page_directives.specs.Taglibs.{prefix_in}
use Rattle.unit_source.specs.declared.entry.Entry.{Entry}
use Rattle.unit_source.specs.declared.entry.Entry.TheVariants.{Unnamed, Absent, Cycle, Entered, Unread}
use Rattle.unit_source.specs.Files.{Files}
use Rattle.unit_source.specs.First.{First, directive, included_path, own_directives, firsts_by, brought_by, brought_names}
use Rattle.unit_source.specs.InPlace.{InPlace, done, leaf, element, broken, included, placed, trimmed, with_stop}
use Rattle.unit_source.specs.declared.progress.TheConstants.{MAX_NESTING}
use Rattle.unit_source.specs.declared.volume.Volume.{Volume}
use Rattle.unit_source.specs.Volume.{and_file, has_room, one_file, spent}

-- the prefixes that are registered so far, and the files and bytes of this page or tag file with its includes
pub record Going : Type 0 where
  pub prefixes : List (List ℕ)
  pub volume : Volume

-- elements of a unit stand in so many others at most
abbrev pub most_nested : ℕ
most_nested = MAX_NESTING

-- nodes in place, the names of included files, and how it goes on
pub record Spliced : Type 0 where
  pub nodes : InPlace
  pub names : List (List ℕ)
  pub going : Going

abbrev pub spliced : InPlace → List (List ℕ) → Going → Spliced
spliced nodes names going = record { nodes = nodes; names = names; going = going }

-- what was read, with more prefixes registered
abbrev pub with_prefixes : List (List ℕ) → Going → Going
with_prefixes prefixes going = record { prefixes = going.prefixes ++ prefixes; volume = going.volume }

-- what was read, with a file of so many bytes more
abbrev pub with_file : ℕ → Going → Going
with_file bytes going = record { prefixes = going.prefixes; volume = and_file bytes going.volume }

-- a limit of files or bytes was passed: no file more is read
abbrev pub full : Going → Going
full going = record { prefixes = going.prefixes; volume = spent going.volume }

-- the files and bytes of what was included, with the prefixes from before
abbrev pub with_counts : Going → Going → Going
with_counts inner going = record { prefixes = going.prefixes; volume = inner.volume }

-- what an include directive comes to, and what is read there
pub record Inner : Type 0 where
  pub entry : Entry
  pub names : List (List ℕ)
  pub nodes : InPlace
  pub going : Going

abbrev pub nothing_read : Entry → List (List ℕ) → Going → Inner
nothing_read entry names going = record { entry = entry; names = names; nodes = done; going = going }

abbrev pub file_read : List ℕ → List ℕ → Spliced → Going → Inner
file_read target text inner going = record { entry = Entered (length text); names = target ∷ inner.names; nodes = inner.nodes; going = with_counts inner.going going }

-- one open element more, counted no further than to where nothing is read
abbrev pub level_within : ℕ → ℕ
level_within around = if nat_le around most_nested then around + 1 else around

-- what reads a file within so many open elements
abbrev pub Enter : Type 0
Enter = ℕ → (path text : List ℕ) → Going → Spliced

-- behind a limit of files or bytes nothing is read
abbrev pub room_read : Enter → ℕ → (target text : List ℕ) → Going → Inner
room_read enter around target text going =
    if has_room (length text) going.volume
    then file_read target text (enter around target text (with_file (length text) going)) going
    else nothing_read (Unread (length text)) (target ∷ []) (full going)

-- within too many elements a file isn't read, but later ones are
abbrev pub text_read : Enter → ℕ → List ℕ → Option (List ℕ) → Going → Inner
text_read enter around target None going = nothing_read Absent (target ∷ []) going
text_read enter around target (Some text) going =
    if nat_le around most_nested then room_read enter around target text going else nothing_read (Unread (length text)) (target ∷ []) going

abbrev pub target_read : Enter → Files → (chain : List (List ℕ)) → ℕ → (has_text : Bool) → Option (List ℕ) → Going → Inner
target_read enter files chain around false target going = nothing_read Unnamed [] going
target_read enter files chain around true None going = nothing_read Absent [] going
target_read enter files chain around true (Some target) going =
    if contains_text target chain then nothing_read Cycle (target ∷ []) going else text_read enter around target (files target) going

-- what an include directive comes to within so many open elements of a file
abbrev pub include_read : Enter → Files → List (List ℕ) → ℕ → Directive → Going → Inner
include_read enter files chain around d going = target_read enter files chain around (is_some (value_of (codes "file") d.attributes)) (included_path d) going

-- the prefixes that a leaf registers: a taglib directive its own
abbrev pub registered : Leaf → Place → List (List ℕ)
registered (leaves.Directive name attributes) place = option_to_list (prefix_in (directive name attributes place))
registered kind place = []

-- one node, of each kind, and then what is read behind it
abbrev pub leaf_then : Leaf → Place → Spliced → Spliced
leaf_then kind place next = spliced (leaf kind place next.nodes) next.names next.going

abbrev pub element_then : Opened → Spliced → Spliced → Spliced
element_then opened inner next = spliced (element opened inner.nodes next.nodes) (inner.names ++ next.names) next.going

abbrev pub broken_then : PageFault → Spliced → Spliced
broken_then fault next = spliced (broken fault next.nodes) next.names next.going

abbrev pub include_then : Directive → Inner → Spliced → Spliced
include_then d inner next = spliced (included d inner.entry inner.nodes next.nodes) (inner.names ++ next.names) next.going

-- the nodes of one file with its includes in place, within so many open elements; behind an include directive stand the prefixes that it brings
abbrev pub nodes_read : (ℕ → Directive → Going → Inner) → List BroughtPrefixes → ℕ → InPlace → Going → Spliced
nodes_read read brought around done going = spliced done [] going
nodes_read read brought around (leaf kind place next) going = leaf_then kind place (nodes_read read brought around next (with_prefixes (registered kind place) going))
nodes_read read brought around (element opened body next) going =
    let inner = nodes_read read brought (level_within around) body going in
    element_then opened inner (nodes_read read brought around next inner.going)
nodes_read read brought around (broken fault next) going = broken_then fault (nodes_read read brought around next going)
nodes_read read brought around (included d entry body next) going =
    let inner = read around d going in
    include_then d inner (nodes_read read brought around next (with_prefixes (brought_at d.place.byte brought) inner.going))

-- the setting of the second reading
abbrev pub setting_of : PageSettings → List (List ℕ) → List BroughtPrefixes → Setting
setting_of settings prefixes brought = record { prefixes = prefixes; brought = brought; el = settings.el; hash_is_text = settings.hash_is_text }

-- the nodes of a file by itself, its break among them
abbrev pub file_nodes : PageSettings → List (List ℕ) → List BroughtPrefixes → (path text : List ℕ) → InPlace
file_nodes settings prefixes brought path text =
    let page = page_text (setting_of settings prefixes brought) path text in
    with_stop page.stop (placed (trimmed settings.trim page.nodes))

-- names before those of nodes
abbrev pub with_names : List (List ℕ) → Spliced → Spliced
with_names names nodes = spliced nodes.nodes (names ++ nodes.names) nodes.going

abbrev pub file_with : Enter → Files → PageSettings → (chain : List (List ℕ)) → ℕ → (path text : List ℕ) → Going → List (ℕ × First) → Spliced
file_with enter files settings chain around path text going firsts =
    with_names (brought_names firsts) (nodes_read (include_read enter files chain) (brought_by firsts) around (file_nodes settings going.prefixes (brought_by firsts) path text) going)

-- a file within the files of the chain, itself among them
abbrev pub file_within : Enter → Files → PageSettings → (chain : List (List ℕ)) → ℕ → (path text : List ℕ) → Going → Spliced
file_within enter files settings chain around path text going = file_with enter files settings chain around path text going (firsts_by files chain (one_file (length text)) (own_directives path text))

-- a file with its includes in place, within the files of the chain and so many open elements, so many files deep at most
unfoldable pub spliced_within : ℕ → Files → PageSettings → List (List ℕ) → Enter
spliced_within zero files settings chain around path text going = spliced done [] going
spliced_within (suc deep) files settings chain around path text going =
    file_within (spliced_within deep files settings (path ∷ chain)) files settings (path ∷ chain) around path text going
