-- The names of attributes, written and given by parts.
use Rattle.std.proofs.Common.{◌≡◌, ℕ, Bool, true, false, List, [], ◌∷◌, ◌++◌, refl, ap, ◌∙◌}
use Rattle.std.specs.Prelude.{◌||◌}
use Rattle.std.specs.List.{list_any}
use Rattle.std.specs.Str.{bytes_eq}
use Rattle.page_pieces.specs.declared.attribute.Attribute.{Attribute}
use Rattle.page_pieces.specs.Repeats.{has_name, has_repeat}
use Rattle.page_pieces.specs.Settings.{contains_text}
use Rattle.jstl_tags.specs.Check.{repeats}
use Rattle.jstl_tags.specs.Content.{attribute_names}

or_same : (a b c : Bool) → b ≡ c → (a || b) ≡ (a || c)
or_same a b c e = ap (λ d. a || d) e

or_apart : (a b c d : Bool) → b ≡ (c || d) → (a || b) ≡ ((a || c) || d)
or_apart true b c d e = refl
or_apart false b c d e = e

contained : (name : List ℕ) (xs ys : List (List ℕ)) → contains_text name (xs ++ ys) ≡ (contains_text name xs || contains_text name ys)
contained name [] ys = refl
contained name (x ∷ xs) ys = or_apart (bytes_eq x name) (contains_text name (xs ++ ys)) (contains_text name xs) (contains_text name ys) (contained name xs ys)

has_name_is : (name : List ℕ) (attributes : List Attribute) → contains_text name (attribute_names attributes) ≡ has_name name attributes
has_name_is name [] = refl
has_name_is name (a ∷ attributes) = or_same (bytes_eq a.name name) (contains_text name (attribute_names attributes)) (has_name name attributes) (has_name_is name attributes)

-- a name is given where it is written, or where a part gives it
pub given_or_part : (name : List ℕ) (attributes : List Attribute) (parts : List (List ℕ)) → contains_text name (attribute_names attributes ++ parts) ≡ (has_name name attributes || contains_text name parts)
given_or_part name attributes parts = contained name (attribute_names attributes) parts ∙ ap (λ b. b || contains_text name parts) (has_name_is name attributes)

four : (a b c d e f : Bool) → f ≡ (c || (d || e)) → ((a || b) || f) ≡ ((a || c) || ((b || d) || e))
four true b c d e f g = refl
four false true true d e f g = refl
four false true false d e f g = refl
four false false c d e f g = g

repeats_joined : (attributes : List Attribute) (parts : List (List ℕ))
    → repeats (attribute_names attributes ++ parts) ≡ (has_repeat attributes || (list_any (λ name. contains_text name parts) (attribute_names attributes) || repeats parts))
repeats_joined [] parts = refl
repeats_joined (a ∷ attributes) parts =
    ap (λ b. b || repeats (attribute_names attributes ++ parts)) (given_or_part a.name attributes parts)
    ∙ four (has_name a.name attributes) (contains_text a.name parts) (has_repeat attributes) (list_any (λ name. contains_text name parts) (attribute_names attributes)) (repeats parts) (repeats (attribute_names attributes ++ parts)) (repeats_joined attributes parts)

or_grouped : (a b c : Bool) → (a || (b || c)) ≡ ((a || b) || c)
or_grouped true b c = refl
or_grouped false b c = refl

-- a name is given twice where it is written twice, where it is written and given by a part, or where two parts give it
pub repeats_apart : (attributes : List Attribute) (parts : List (List ℕ))
    → repeats (attribute_names attributes ++ parts) ≡ ((has_repeat attributes || list_any (λ name. contains_text name parts) (attribute_names attributes)) || repeats parts)
repeats_apart attributes parts = repeats_joined attributes parts ∙ or_grouped (has_repeat attributes) (list_any (λ name. contains_text name parts) (attribute_names attributes)) (repeats parts)
