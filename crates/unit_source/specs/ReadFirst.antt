-- First readings one after the other. No public contract speaks of them.
use Rattle.std.specs.Prelude.{ℕ, List, [], ◌∷◌, ◌++◌}
use Rattle.page_directives.specs.Directive.{Directive}
use Rattle.page_directives.specs.Taglibs.{prefixes_of}
use Rattle.unit_source.specs.declared.volume.Volume.{Volume}
use Rattle.unit_source.specs.First.{First}
use Rattle.unit_source.specs.ReadParts.{Part, in_part}

-- first readings with the prefixes that they register
pub record Told : Type 0 where
  pub directives : List Directive
  pub prefixes : List (List ℕ)
  pub names : List (List ℕ)
  pub volume : Volume

abbrev pub told : First → Told
told first = record { directives = first.directives; prefixes = prefixes_of first.directives; names = first.names; volume = first.volume }

-- first readings, and another behind them
abbrev pub gathered : First → First → First
gathered old more = record { directives = old.directives ++ more.directives; names = old.names ++ more.names; volume = more.volume }

abbrev pub told_behind : Told → First → Told
told_behind old more = record { directives = old.directives ++ more.directives; prefixes = old.prefixes ++ prefixes_of more.directives; names = old.names ++ more.names; volume = more.volume }

abbrev pub and_part : Part → Told → Told
and_part part old = record { directives = old.directives ++ in_part part; prefixes = old.prefixes ++ prefixes_of (in_part part); names = old.names; volume = old.volume }

abbrev pub and_name : List ℕ → Told → Told
and_name name old = record { directives = old.directives; prefixes = old.prefixes; names = old.names ++ name ∷ []; volume = old.volume }
