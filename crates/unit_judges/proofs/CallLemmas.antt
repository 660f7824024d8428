-- The faults of names that are given to a call.
use Rattle.std.proofs.Common.{◌≡◌, ℕ, Bool, true, false, cond, List, [], ◌∷◌, ◌++◌, map, refl, sym, ap, ◌∙◌, append_assoc, append-nil}
use Rattle.std.specs.Prelude.{◌||◌, ◌&&◌, not, filter}
use Rattle.std.specs.Option.{is_some}
use Rattle.std.specs.Str.{bytes_eq}
use Rattle.page_pieces.specs.declared.attribute.Attribute.{Attribute}
use Rattle.page_pieces.specs.Repeats.{has_name}
use Rattle.page_pieces.specs.Settings.{contains_text}
use Rattle.tag_decl.specs.declared.declaration.AttrDecl.{AttrDecl}
use Rattle.tag_decl.specs.declared.declaration.TagDecl.{TagDecl}
use Rattle.tag_decl.specs.Declare.{declared}
use Rattle.tag_decl.specs.Required.{required_names}
use Rattle.jstl_tags.specs.declared.standing.Standing.{Standing as Made}
use Rattle.jstl_tags.specs.Check.{lacks}
use Rattle.jstl_tags.specs.Content.{attribute_names}
use Rattle.jstl_tags.specs.Standing.{Standing, part_names_in, standing_made}
use Rattle.jstl_tags.specs.Standing as standing
use Rattle.unit_words.specs.Calls.{lacks_required, name_faults, names_faults}

-- a name is written where an attribute has it
pub written : (name : List ℕ) (attributes : List Attribute) → has_name name attributes ≡ contains_text name (attribute_names attributes)
written name [] = refl
written name (a ∷ attributes) = ap (λ b. bytes_eq a.name name || b) (written name attributes)

pub names_joined : (decl : TagDecl) (all xs ys : List (List ℕ)) → names_faults decl all (xs ++ ys) ≡ names_faults decl all xs ++ names_faults decl all ys
names_joined decl all [] ys = refl
names_joined decl all (x ∷ xs) ys =
    ap (λ more. name_faults (is_some decl.dynamic) (contains_text x all) (declared x decl.attributes) ++ more) (names_joined decl all xs ys)
    ∙ sym (append_assoc (name_faults (is_some decl.dynamic) (contains_text x all) (declared x decl.attributes)) (names_faults decl all xs) (names_faults decl all ys))

attribute_names_joined : (xs ys : List Attribute) → attribute_names (xs ++ ys) ≡ attribute_names xs ++ attribute_names ys
attribute_names_joined [] ys = refl
attribute_names_joined (x ∷ xs) ys = ap (λ more. x.name ∷ more) (attribute_names_joined xs ys)

pub written_joined : (decl : TagDecl) (all : List (List ℕ)) (xs ys : List Attribute)
    → names_faults decl all (attribute_names (xs ++ ys)) ≡ names_faults decl all (attribute_names xs) ++ names_faults decl all (attribute_names ys)
written_joined decl all xs ys = ap (names_faults decl all) (attribute_names_joined xs ys) ∙ names_joined decl all (attribute_names xs) (attribute_names ys)

one_part : (thing : Standing) (more : List Standing) → part_names_in (thing ∷ more) ≡ part_names_in (thing ∷ []) ++ part_names_in more
one_part standing.blank more = refl
one_part standing.other more = refl
one_part (standing.tag t) more = ap (λ front. front ++ part_names_in more) (sym (append-nil _))

part_names_joined : (xs ys : List Made) → part_names_in (map standing_made (xs ++ ys)) ≡ part_names_in (map standing_made xs) ++ part_names_in (map standing_made ys)
part_names_joined [] ys = refl
part_names_joined (x ∷ xs) ys =
    one_part (standing_made x) (map standing_made (xs ++ ys))
    ∙ ap (λ more. part_names_in (standing_made x ∷ []) ++ more) (part_names_joined xs ys)
    ∙ sym (append_assoc (part_names_in (standing_made x ∷ [])) (part_names_in (map standing_made xs)) (part_names_in (map standing_made ys)))
    ∙ ap (λ front. front ++ part_names_in (map standing_made ys)) (sym (one_part (standing_made x) (map standing_made xs)))

pub parts_joined : (decl : TagDecl) (all : List (List ℕ)) (xs ys : List Made)
    → names_faults decl all (part_names_in (map standing_made (xs ++ ys))) ≡ names_faults decl all (part_names_in (map standing_made xs)) ++ names_faults decl all (part_names_in (map standing_made ys))
parts_joined decl all xs ys = ap (names_faults decl all) (part_names_joined xs ys) ∙ names_joined decl all (part_names_in (map standing_made xs)) (part_names_in (map standing_made ys))

-- a required attribute is lacking where the name of one is
pub lacks_named : (decls : List AttrDecl) (given : List (List ℕ)) → lacks_required decls given ≡ lacks (required_names decls) given
lacks_named [] given = refl
lacks_named (decl ∷ decls) given = by_required decl.required (lacks_named decls given)
  where
    by_required : (b : Bool) → lacks_required decls given ≡ lacks (required_names decls) given
        → ((b && not (contains_text decl.name given)) || lacks_required decls given)
        ≡ lacks (map (λ d. d.name) (cond b (decl ∷ filter (λ d. d.required) decls) (filter (λ d. d.required) decls))) given
    by_required true rest = ap (λ b. not (contains_text decl.name given) || b) rest
    by_required false rest = rest
