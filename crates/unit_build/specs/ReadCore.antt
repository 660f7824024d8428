-- The prefixes of the core library as the program gathers them.
use Rattle.std.specs.Prelude.{ℕ, Bool, List, [], ◌∷◌, ◌++◌, Option, Some, None, if◌then◌else◌}
use Rattle.page_pieces.specs.Settings.{contains_text}
use Rattle.page_directives.specs.Directive.{Directive}
use Rattle.page_directives.specs.Taglibs.{prefix_in}
use Rattle.unit_words.specs.Kinds.{is_core_prefix}

-- a prefix is among these
unfoldable pub is_among : List (List ℕ) → List ℕ → Bool
is_among prefixes prefix = contains_text prefix prefixes

-- the prefix, where it is the core library's by these directives
abbrev pub core_in : List Directive → Option (List ℕ) → List (List ℕ)
core_in directives None = []
core_in directives (Some prefix) = if is_core_prefix directives prefix then prefix ∷ [] else []

-- the prefixes that some directives register and that are the core library's by all directives
abbrev pub core_of : List Directive → List Directive → List (List ℕ)
core_of directives [] = []
core_of directives (d ∷ ds) = core_in directives (prefix_in d) ++ core_of directives ds
