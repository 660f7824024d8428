-- The faults of names, one after the other.
use Rattle.std.proofs.Common.{◌≡◌, ℕ, ◌+◌, ◌<◌, List, [], ◌∷◌, ◌++◌, refl, sym, ap, ◌∙◌, append_assoc, append-nil, length, take, get_or}
use Rattle.std.specs.Prelude.{map}
use Rattle.std.proofs.lemmas.List.{take_more}
use Rattle.page_pieces.specs.declared.attribute.Attribute.{Attribute}
use Rattle.page_directives.specs.Directive.{row_of}
use Rattle.jstl_tags.specs.declared.standing.Standing.{Standing as Made}
use Rattle.jstl_tags.specs.Check.{name_faults, names_faults}
use Rattle.jstl_tags.specs.Content.{attribute_names, part_name}
use Rattle.jstl_tags.specs.Rows.{Row}
use Rattle.jstl_tags.specs.Standing.{Standing, blank, other, tag, part_names_in, standing_made}

-- the faults of these names and of those
pub names_faults-append : (row : Row) (xs ys : List (List ℕ)) → names_faults row (xs ++ ys) ≡ names_faults row xs ++ names_faults row ys
names_faults-append row [] ys = refl
names_faults-append row (x ∷ xs) ys =
    ap (λ more. name_faults (row_of x row.attributes) ++ more) (names_faults-append row xs ys)
    ∙ sym (append_assoc (name_faults (row_of x row.attributes)) (names_faults row xs) (names_faults row ys))

attribute_names-append : (xs ys : List Attribute) → attribute_names (xs ++ ys) ≡ attribute_names xs ++ attribute_names ys
attribute_names-append [] ys = refl
attribute_names-append (x ∷ xs) ys = ap (λ more. x.name ∷ more) (attribute_names-append xs ys)

-- one attribute more
pub written_more : (row : Row) (xs : List Attribute) (i : ℕ) (x : Attribute) → i < length xs → x ≡ get_or xs i x
    → names_faults row (attribute_names (take i xs)) ++ name_faults (row_of x.name row.attributes) ≡ names_faults row (attribute_names (take (i + 1) xs))
written_more row xs i x within is =
    ap (λ more. names_faults row (attribute_names (take i xs)) ++ more) (sym (append-nil (name_faults (row_of x.name row.attributes))))
    ∙ (sym (names_faults-append row (attribute_names (take i xs)) (x.name ∷ []))
    ∙ (ap (names_faults row) (sym (attribute_names-append (take i xs) (x ∷ [])))
    ∙ ap (λ ys. names_faults row (attribute_names ys)) (ap (λ y. take i xs ++ y ∷ []) is ∙ sym (take_more xs i x within))))

part_names-append : (xs ys : List Standing) → part_names_in (xs ++ ys) ≡ part_names_in xs ++ part_names_in ys
part_names-append [] ys = refl
part_names-append (blank ∷ xs) ys = part_names-append xs ys
part_names-append (other ∷ xs) ys = part_names-append xs ys
part_names-append (tag t ∷ xs) ys =
    ap (λ more. part_name t ++ more) (part_names-append xs ys) ∙ sym (append_assoc (part_name t) (part_names_in xs) (part_names_in ys))

map-append : (xs ys : List Made) → map standing_made (xs ++ ys) ≡ map standing_made xs ++ map standing_made ys
map-append [] ys = refl
map-append (x ∷ xs) ys = ap (λ more. standing_made x ∷ more) (map-append xs ys)

-- one thing more
pub parts_more : (row : Row) (xs : List Made) (i : ℕ) (x : Made) → i < length xs → x ≡ get_or xs i x
    → names_faults row (part_names_in (map standing_made (take i xs))) ++ names_faults row (part_names_in (standing_made x ∷ [])) ≡ names_faults row (part_names_in (map standing_made (take (i + 1) xs)))
parts_more row xs i x within is =
    sym (names_faults-append row (part_names_in (map standing_made (take i xs))) (part_names_in (standing_made x ∷ [])))
    ∙ (ap (names_faults row) (sym (part_names-append (map standing_made (take i xs)) (standing_made x ∷ [])))
    ∙ (ap (λ ys. names_faults row (part_names_in ys)) (sym (map-append (take i xs) (x ∷ [])))
    ∙ ap (λ ys. names_faults row (part_names_in (map standing_made ys))) (ap (λ y. take i xs ++ y ∷ []) is ∙ sym (take_more xs i x within))))
