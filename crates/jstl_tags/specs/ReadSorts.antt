-- The elements for which a body is looked through. No public contract speaks of them.
use Rattle.std.specs.Prelude.{Bool, true, false, not, codes}
use Rattle.page_pieces.specs.declared.piece.Tag.{Tag}
use Rattle.page_pieces.specs.Settings.{contains_text}
use Rattle.jstl_tags.specs.declared.content.Sort.{Sort}
use Rattle.jstl_tags.specs.declared.content.Sort.TheVariants as sort
use Rattle.jstl_tags.specs.Check.{is_branch, is_core, is_param}
use Rattle.jstl_tags.specs.Content.{is_part, is_standard}
use Rattle.jstl_tags.specs.Standing.{Standing, blank, other, tag}

-- whether an element is one of these
abbrev pub is_of : Sort → Tag → Bool
is_of sort.Part = is_part
is_of sort.PartAttribute = is_standard (codes "attribute")
is_of sort.PartBody = is_standard (codes "body")
is_of (sort.Param library) = is_param (λ prefix. contains_text prefix library.now)
is_of (sort.When library) = is_core (λ prefix. contains_text prefix library.now) (codes "when")
is_of (sort.Branch library) = is_branch (λ prefix. contains_text prefix library.now)
is_of sort.No = λ t. false

-- whether what stands there is one of these elements
abbrev pub thing_is : (Tag → Bool) → Standing → Bool
thing_is test blank = false
thing_is test other = false
thing_is test (tag t) = test t

-- whether what stands there is neither white space nor one of these elements
abbrev pub thing_is_other : (Tag → Bool) → Standing → Bool
thing_is_other test blank = false
thing_is_other test other = true
thing_is_other test (tag t) = not (test t)
