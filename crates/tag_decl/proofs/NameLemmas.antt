-- The names that directives declare.
use Rattle.std.proofs.Common.{◌≡◌, ℕ, Bool, true, false, cond, List, [], ◌∷◌, ◌++◌, Bor, refl, sym, ap, ◌∙◌, Option, Some, None}
use Rattle.std.specs.BTreeSet.{BTreeSet, contains, Updates}
use Rattle.std.specs.Prelude.{map, codes, ◌||◌}
use Rattle.std.specs.Option.{option_or}
use Rattle.std.specs.Str.{bytes_eq}
use Rattle.std.proofs.lemmas.Map.Text.{is_eq-slice_cmp}
use Rattle.pg_text.specs.declared.translation_fault.TranslationFault.{TranslationFault}
use Rattle.pg_text.specs.declared.translation_fault.TranslationFault.TheVariants as fault
use Rattle.page_pieces.specs.Settings.{contains_text, value_of}
use Rattle.page_directives.specs.Directive.{Directive, is_named}
use Rattle.page_directives.specs.Faults.{fault_if}
use Rattle.page_directives.specs.ReadKnown.{text_order}
use Rattle.page_directives.specs.Settings.{is_value}
use Rattle.tag_decl.specs.Declare.{attribute_in, attributes_of, variable_in, variable_name, variables_of}
use Rattle.tag_decl.specs.Faults.{clash_faults, declared_names}
use Rattle.tag_decl.specs.Names.{attribute_name, variable_of}

-- a name is among those of the attributes where the first directive declares it, or one behind it
pub attribute_first : (name : List ℕ) (d : Directive) (ds : List Directive)
    → contains_text name (map (λ decl. decl.name) (attributes_of (d ∷ ds))) ≡ (is_value name (attribute_name d) || contains_text name (map (λ decl. decl.name) (attributes_of ds)))
attribute_first name d ds = by_name (is_named (codes "attribute") d) (value_of (codes "name") d.attributes)
  where
    by_name : (b : Bool) (own : Option (List ℕ))
        → contains_text name (map (λ decl. decl.name) ((cond b (attribute_in d.attributes own) []) ++ attributes_of ds)) ≡ (is_value name (cond b own None) || contains_text name (map (λ decl. decl.name) (attributes_of ds)))
    by_name true None = refl
    by_name true (Some own) = refl
    by_name false own = refl

pub variable_first : (name : List ℕ) (d : Directive) (ds : List Directive)
    → contains_text name (map (λ decl. decl.name) (variables_of (d ∷ ds))) ≡ (is_value name (variable_of d) || contains_text name (map (λ decl. decl.name) (variables_of ds)))
variable_first name d ds = by_name (is_named (codes "variable") d) (variable_name d.attributes)
  where
    by_name : (b : Bool) (own : Option (List ℕ))
        → contains_text name (map (λ decl. decl.name) ((cond b (variable_in d.attributes own) []) ++ variables_of ds)) ≡ (is_value name (cond b own None) || contains_text name (map (λ decl. decl.name) (variables_of ds)))
    by_name true None = refl
    by_name true (Some own) = refl
    by_name false own = refl

or_first : (a b c d : Bool) → b ≡ (c || d) → (a || b) ≡ ((a || c) || d)
or_first true b c d e = refl
or_first false b c d e = e

-- a name is among these or those
pub contained : (name : List ℕ) (xs ys : List (List ℕ)) → contains_text name (xs ++ ys) ≡ (contains_text name xs || contains_text name ys)
contained name [] ys = refl
contained name (x ∷ xs) ys = or_first (bytes_eq x name) (contains_text name (xs ++ ys)) (contains_text name xs) (contains_text name ys) (contained name xs ys)

-- the fault of a name that was declared before
abbrev pub clash_of : List Directive → Option (List ℕ) → List TranslationFault
clash_of before None = []
clash_of before (Some name) = fault_if (contains_text name (declared_names before)) fault.Clash

-- a directive declares one name at most
pub clash_is : (before : List Directive) (d : Directive) → clash_faults before (declared_names (d ∷ [])) ≡ clash_of before (option_or (attribute_name d) (variable_of d))
clash_is before d = by_name (is_named (codes "attribute") d) (value_of (codes "name") d.attributes) (is_named (codes "variable") d) (variable_name d.attributes)
  where
    by_name : (a : Bool) (name : Option (List ℕ)) (v : Bool) (own : Option (List ℕ))
        → clash_faults before (map (λ decl. decl.name) ((cond a (attribute_in d.attributes name) []) ++ []) ++ map (λ decl. decl.name) ((cond v (variable_in d.attributes own) []) ++ []))
        ≡ clash_of before (option_or (cond a name None) (cond v own None))
    by_name true (Some name) v own = refl
    by_name true None true None = refl
    by_name true None true (Some own) = refl
    by_name true None false own = refl
    by_name false name true None = refl
    by_name false name true (Some own) = refl
    by_name false name false own = refl

or_false : (a : Bool) → (a || false) ≡ a
or_false true = refl
or_false false = refl

or_assoc : (a b c : Bool) → (a || (b || c)) ≡ ((a || b) || c)
or_assoc true b c = refl
or_assoc false b c = refl

-- the same of the last directive
attribute_more : (name : List ℕ) (ds : List Directive) (d : Directive)
    → contains_text name (map (λ decl. decl.name) (attributes_of (ds ++ d ∷ []))) ≡ (contains_text name (map (λ decl. decl.name) (attributes_of ds)) || is_value name (attribute_name d))
attribute_more name [] d = attribute_first name d [] ∙ or_false (is_value name (attribute_name d))
attribute_more name (e ∷ ds) d =
    attribute_first name e (ds ++ d ∷ [])
    ∙ (ap (λ c. is_value name (attribute_name e) || c) (attribute_more name ds d)
    ∙ (or_assoc (is_value name (attribute_name e)) (contains_text name (map (λ decl. decl.name) (attributes_of ds))) (is_value name (attribute_name d))
    ∙ ap (λ c. c || is_value name (attribute_name d)) (sym (attribute_first name e ds))))

variable_more : (name : List ℕ) (ds : List Directive) (d : Directive)
    → contains_text name (map (λ decl. decl.name) (variables_of (ds ++ d ∷ []))) ≡ (contains_text name (map (λ decl. decl.name) (variables_of ds)) || is_value name (variable_of d))
variable_more name [] d = variable_first name d [] ∙ or_false (is_value name (variable_of d))
variable_more name (e ∷ ds) d =
    variable_first name e (ds ++ d ∷ [])
    ∙ (ap (λ c. is_value name (variable_of e) || c) (variable_more name ds d)
    ∙ (or_assoc (is_value name (variable_of e)) (contains_text name (map (λ decl. decl.name) (variables_of ds))) (is_value name (variable_of d))
    ∙ ap (λ c. c || is_value name (variable_of d)) (sym (variable_first name e ds))))

or_swap : (a b c d : Bool) → ((a || b) || (c || d)) ≡ (((a || c) || b) || d)
or_swap true b c d = refl
or_swap false true true d = refl
or_swap false true false d = refl
or_swap false false true d = refl
or_swap false false false d = refl

-- a name is among those that directives and one more declare where it is among theirs, or is that of the last
pub declared_more : (name : List ℕ) (ds : List Directive) (d : Directive)
    → contains_text name (declared_names (ds ++ d ∷ [])) ≡ ((contains_text name (declared_names ds) || is_value name (attribute_name d)) || is_value name (variable_of d))
declared_more name ds d =
    contained name (map (λ decl. decl.name) (attributes_of (ds ++ d ∷ []))) (map (λ decl. decl.name) (variables_of (ds ++ d ∷ [])))
    ∙ ((λ i. attribute_more name ds d i || variable_more name ds d i)
    ∙ (or_swap (contains_text name (map (λ decl. decl.name) (attributes_of ds))) (is_value name (attribute_name d)) (contains_text name (map (λ decl. decl.name) (variables_of ds))) (is_value name (variable_of d))
    ∙ ap (λ c. (c || is_value name (attribute_name d)) || is_value name (variable_of d)) (sym (contained name (map (λ decl. decl.name) (attributes_of ds)) (map (λ decl. decl.name) (variables_of ds))))))

or_cond : (x y : Bool) → cond x true y ≡ (y || x)
or_cond true true = refl
or_cond true false = refl
or_cond false true = refl
or_cond false false = refl

-- a set of names, and one more
pub name_inserted : (old new : BTreeSet (Bor (List ℕ))) (key : Bor (List ℕ)) (has : List ℕ → Bool) → Updates text_order old new key true → ((other : Bor (List ℕ)) → contains text_order old other ≡ has other.now)
    → (other : Bor (List ℕ)) → contains text_order new other ≡ (has other.now || bytes_eq key.now other.now)
name_inserted old new key has updates is other = updates.0 other ∙ ((λ i. cond (is_eq-slice_cmp key.now other.now i) true (is other i)) ∙ or_cond (bytes_eq key.now other.now) (has other.now))
