-- What stands around a node.
use Rattle.std.specs.Prelude.{ℕ, Bool, true, false, List, [], ◌∷◌, codes, Option, Some, None, if◌then◌else◌}
use Rattle.std.specs.List.{slice_get}
use Rattle.std.specs.Str.{bytes_eq}
use Rattle.jstl_tags.specs.declared.core_name.CoreName.{CoreName}
use Rattle.jstl_tags.specs.declared.core_name.CoreName.TheVariants as core

-- an element in whose body something stands: a core tag; a standard action; the call of a tag file; or another one.
-- Of a core tag it is known whether an `otherwise` stood in its body before
pub data Host : Type 0 where
  core_host : CoreName → (otherwise : Bool) → Host
  standard_host : (name : List ℕ) → Host
  call_host other_host : Host

-- the elements around, the innermost first
abbrev pub Around : Type 0
Around = List Host

-- the host is `jsp:` and this name
abbrev pub is_host : List ℕ → Host → Bool
is_host name (standard_host other) = bytes_eq name other
is_host name _ = false

-- the element whose part something is: `jsp:body` stands for the element around it
abbrev pub host_of : Around → Option Host
host_of [] = None
host_of (host ∷ around) = if is_host (codes "body") host then slice_get around 0 else Some host

abbrev pub is_choice : Option Host → Bool
is_choice (Some (core_host core.Choose otherwise)) = true
is_choice _ = false

-- within `c:choose`, and within its `jsp:body`, only branches and white space stand
abbrev pub in_choose : Around → Bool
in_choose around = is_choice (host_of around)

-- within `jsp:text` no element stands
abbrev pub in_text : Around → Bool
in_text [] = false
in_text (host ∷ around) = is_host (codes "text") host

-- a host in which an `otherwise` stood
abbrev pub with_otherwise : Host → Host
with_otherwise (core_host core.Choose otherwise) = core_host core.Choose true
with_otherwise host = host

-- what stands around behind an `otherwise`
abbrev pub after_otherwise : Around → Around
after_otherwise [] = []
after_otherwise (standard_host name ∷ host ∷ around) = standard_host name ∷ with_otherwise host ∷ around
after_otherwise (host ∷ around) = with_otherwise host ∷ around
