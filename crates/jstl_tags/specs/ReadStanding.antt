-- What is asked of what stands in a body. No public contract speaks of it: that it is what the definition asks of the nodes is proved.
use Rattle.std.specs.Prelude.{Bool, true, false, not, ◌||◌, List, [], ◌∷◌, if◌then◌else◌}
use Rattle.page_pieces.specs.declared.piece.Tag.{Tag}
use Rattle.jstl_tags.specs.Standing.{Standing, blank, other, tag}

-- something else stands there than these elements, white space apart
abbrev pub other_stands : (Tag → Bool) → List Standing → Bool
other_stands is_part [] = false
other_stands is_part (blank ∷ more) = other_stands is_part more
other_stands is_part (other ∷ more) = true
other_stands is_part (tag t ∷ more) = not (is_part t) || other_stands is_part more

-- one of these elements stands there
abbrev pub element_stands : (Tag → Bool) → List Standing → Bool
element_stands is_part [] = false
element_stands is_part (tag t ∷ more) = is_part t || element_stands is_part more
element_stands is_part (thing ∷ more) = element_stands is_part more

-- two of them
abbrev pub two_stand : (Tag → Bool) → List Standing → Bool
two_stand is_part [] = false
two_stand is_part (tag t ∷ more) = if is_part t then element_stands is_part more else two_stand is_part more
two_stand is_part (thing ∷ more) = two_stand is_part more

-- nothing stands there
abbrev pub nothing_stands : List Standing → Bool
nothing_stands [] = true
nothing_stands (thing ∷ more) = false
