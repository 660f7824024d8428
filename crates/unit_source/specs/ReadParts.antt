-- The directives of a file, cut behind its include directives, as the program keeps them. No public contract speaks of them.
use Rattle.std.specs.Prelude.{◌≡◌, ⊤, false, List, [], ◌∷◌, ◌++◌, codes, Option}
use Rattle.std.specs.Option.{option_to_list}
use Rattle.page_directives.specs.Directive.{Directive, is_named}

-- directives none of which includes a file, and the include directive behind them, where there is one
pub record Part : Type 0 where
  pub plain : List Directive
  pub include : Option Directive

abbrev pub in_part : Part → List Directive
in_part part = part.plain ++ option_to_list part.include

-- the directives of parts, in order
abbrev pub in_parts : List Part → List Directive
in_parts [] = []
in_parts (part ∷ parts) = in_part part ++ in_parts parts

-- none is an include directive
abbrev pub ArePlain : List Directive → Type 0
ArePlain [] = ⊤
ArePlain (d ∷ ds) = (is_named (codes "include") d ≡ false) × ArePlain ds
