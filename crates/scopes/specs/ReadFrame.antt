-- The variables of a frame, as the program keeps them. No public contract speaks of it.
use Rattle.scopes.specs.Scopes.{Entries}
use Rattle.scopes.specs.declared.frame.Variables.{Variables}
use Rattle.scopes.specs.declared.frame.Variables.TheVariants as variables

-- few stand in a list, many in a tree
abbrev pub in_variables : Variables → Entries
in_variables (variables.Few entries) = entries
in_variables (variables.Many entries) = entries
