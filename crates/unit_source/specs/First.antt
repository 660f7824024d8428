-- The first reading: each file by itself, with expressions, `#{` as text, and its own taglib directives alone.
use Rattle.std.specs.Prelude.{ℕ, zero, suc, List, [], ◌∷◌, ◌++◌, codes, Option, Some, None, length, if◌then◌else◌}
use Rattle.pg_text.specs.declared.place.Place.{Place}
use Rattle.page_pieces.specs.declared.attribute.Attribute.{Attribute}
use Rattle.page_pieces.specs.declared.piece.Leaf.TheVariants as leaves
use Rattle.page_pieces.specs.declared.setting.BroughtPrefixes.{BroughtPrefixes}
use Rattle.page_pieces.specs.Settings.{contains_text, first_setting, value_of}
use Rattle.page_reader.specs.PageText.{page_text}
use Rattle.page_reader.specs.Trees.{Tree, done, leaf, element}
use Rattle.page_directives.specs.Directive.{Directive, is_named}
use Rattle.page_directives.specs.Taglibs.{prefixes_of}
use Rattle.unit_source.specs.declared.volume.Volume.{Volume}
use Rattle.unit_source.specs.Files.{Files, path_in}
use Rattle.unit_source.specs.Volume.{and_file, has_room, spent}

abbrev pub directive : List ℕ → List Attribute → Place → Directive
directive name attributes place = record { name = name; attributes = attributes; place = place }

-- the directives of a tree, in order
abbrev pub directives_in : Tree → List Directive
directives_in done = []
directives_in (leaf (leaves.Directive name attributes) place next) = directive name attributes place ∷ directives_in next
directives_in (leaf kind place next) = directives_in next
directives_in (element opened body next) = directives_in body ++ directives_in next

-- the path of the file that an include directive names
abbrev pub included_path : Directive → Option (List ℕ)
included_path d = if is_named (codes "include") d then path_in d.place.file (value_of (codes "file") d.attributes) else None

-- directives in reading order, the names of the files that they include, and what was read so far
pub record First : Type 0 where
  pub directives : List Directive
  pub names : List (List ℕ)
  pub volume : Volume

abbrev pub none_read : Volume → First
none_read volume = record { directives = []; names = []; volume = volume }

-- what reads a file behind what was read so far
abbrev pub EnterFirst : Type 0
EnterFirst = Volume → (path text : List ℕ) → First

-- the file of that name is read, unless it is absent; behind a limit no more are read
abbrev pub first_text : EnterFirst → Volume → List ℕ → Option (List ℕ) → First
first_text enter volume target None = none_read volume
first_text enter volume target (Some text) = if has_room (length text) volume then enter (and_file (length text) volume) target text else none_read (spent volume)

abbrev pub with_name : List ℕ → First → First
with_name name first = record { directives = first.directives; names = name ∷ first.names; volume = first.volume }

-- the file of that name, unless it is being read
abbrev pub first_file : EnterFirst → Files → (chain : List (List ℕ)) → Volume → Option (List ℕ) → First
first_file enter files chain volume None = none_read volume
first_file enter files chain volume (Some target) = with_name target (if contains_text target chain then none_read volume else first_text enter volume target (files target))

abbrev pub first_before : Directive → First → First → First
first_before d here later = record { directives = d ∷ here.directives ++ later.directives; names = here.names ++ later.names; volume = later.volume }

-- each directive, and behind an include directive those of its file
abbrev pub first_all : EnterFirst → Files → List (List ℕ) → Volume → List Directive → First
first_all enter files chain volume [] = none_read volume
first_all enter files chain volume (d ∷ ds) =
    let here = first_file enter files chain volume (included_path d) in
    first_before d here (first_all enter files chain here.volume ds)

-- the directives of a file by itself
unfoldable pub own_directives : (path text : List ℕ) → List Directive
own_directives path text = directives_in (page_text first_setting path text).nodes

-- the first readings of a file and of what it includes, within the files of the chain, so many deep at most
unfoldable pub first_within : ℕ → Files → List (List ℕ) → EnterFirst
first_within zero files chain volume path text = none_read volume
first_within (suc deep) files chain volume path text = first_all (first_within deep files (path ∷ chain)) files (path ∷ chain) volume (own_directives path text)

-- a chain of includes has no more files than are read
abbrev pub most_deep : ℕ
most_deep = 257

-- what an include directive brings: the first readings of its file, and of what that includes
abbrev pub brought_first : Files → List (List ℕ) → Volume → Directive → First
brought_first files chain volume d = first_file (first_within most_deep files chain) files chain volume (included_path d)

-- the same of each include directive of a file, by its first byte; all together are within the limits of a unit
abbrev pub firsts_by : Files → List (List ℕ) → Volume → List Directive → List (ℕ × First)
firsts_by files chain volume [] = []
firsts_by files chain volume (d ∷ ds) =
    if is_named (codes "include") d
    then (let first = brought_first files chain volume d in (d.place.byte, first) ∷ firsts_by files chain first.volume ds)
    else firsts_by files chain volume ds

-- the prefixes that these register
abbrev pub brought_by : List (ℕ × First) → List BroughtPrefixes
brought_by [] = []
brought_by (b ∷ firsts) = record { byte = b.0; prefixes = prefixes_of b.1.directives } ∷ brought_by firsts

-- the names of the files that they include
abbrev pub brought_names : List (ℕ × First) → List (List ℕ)
brought_names [] = []
brought_names (b ∷ firsts) = b.1.names ++ brought_names firsts
