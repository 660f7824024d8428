-- The faults of attributes, one after the other.
use Rattle.std.proofs.Common.{◌≡◌, ℕ, ◌+◌, ◌<◌, List, [], ◌∷◌, ◌++◌, refl, sym, ap, ◌∙◌, append_assoc, append-nil, length, take, get_or}
use Rattle.std.proofs.lemmas.List.{take_more}
use Rattle.page_pieces.specs.declared.attribute.Attribute.{Attribute}
use Rattle.page_directives.specs.Checks.{Table, by_row, attribute_faults}
use Rattle.page_directives.specs.Directive.{row_of}

attribute_faults-append : (table : Table) (xs ys : List Attribute) → attribute_faults table (xs ++ ys) ≡ attribute_faults table xs ++ attribute_faults table ys
attribute_faults-append table [] ys = refl
attribute_faults-append table (x ∷ xs) ys = ap (λ more. by_row (row_of x.name table) x ++ more) (attribute_faults-append table xs ys) ∙ sym (append_assoc (by_row (row_of x.name table) x) (attribute_faults table xs) (attribute_faults table ys))

-- one attribute more
pub attribute_faults_more : (table : Table) (xs : List Attribute) (i : ℕ) (x : Attribute) → i < length xs → x ≡ get_or xs i x
    → attribute_faults table (take i xs) ++ by_row (row_of x.name table) x ≡ attribute_faults table (take (i + 1) xs)
attribute_faults_more table xs i x within is =
    ap (λ more. attribute_faults table (take i xs) ++ more) (sym (append-nil (by_row (row_of x.name table) x)))
    ∙ (sym (attribute_faults-append table (take i xs) (x ∷ []))
    ∙ ap (attribute_faults table) (ap (λ y. take i xs ++ y ∷ []) is ∙ sym (take_more xs i x within)))
