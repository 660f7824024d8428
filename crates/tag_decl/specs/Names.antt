-- The name that one directive declares.
use Rattle.std.specs.Prelude.{ℕ, List, codes, Option, None, if◌then◌else◌}
use Rattle.page_pieces.specs.Settings.{value_of}
use Rattle.page_directives.specs.Directive.{Directive, is_named}
use Rattle.tag_decl.specs.Declare.{variable_name}

-- the name of the attribute that an `attribute` directive declares
abbrev pub attribute_name : Directive → Option (List ℕ)
attribute_name d = if is_named (codes "attribute") d then value_of (codes "name") d.attributes else None

-- the name of the variable that a `variable` directive declares
abbrev pub variable_of : Directive → Option (List ℕ)
variable_of d = if is_named (codes "variable") d then variable_name d.attributes else None
