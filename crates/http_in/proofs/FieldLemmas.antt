-- The values of a name in a list of fields.
use Rattle.std.proofs.Common.{◌≡◌, ℕ, ◌+◌, ◌<◌, Bool, true, false, cond, ◌&&◌, ◌||◌, List, [], ◌∷◌, length, map, get_or, drop, refl, sym, ap, ◌∙◌}
use Rattle.std.specs.List.{filter, list_any}
use Rattle.std.specs.Str.{bytes_eq}
use Rattle.std.proofs.lemmas.List.{at_drop_more, length-map}
use Rattle.http_in.specs.declared.fields.Field.{Field}
use Rattle.http_in.specs.Fields.{values_of}

-- whether the field has this name
abbrev pub has_name : List ℕ → Field → Bool
has_name name field = bytes_eq field.name name

-- as many values as fields have the name
pub length-values : (name : List ℕ) (fields : List Field) → length (filter (has_name name) fields) ≡ length (values_of name fields)
length-values name fields = sym (length-map (filter (has_name name) fields) (λ field. field.value))

-- some value of a name passes a test where some field has the name and its value passes
pub list_any-values : (test : List ℕ → Bool) (name : List ℕ) (fields : List Field)
    → list_any (λ field. has_name name field && test field.value) fields ≡ list_any test (values_of name fields)
list_any-values test name [] = refl
list_any-values test name (field ∷ fields) = go (has_name name field) (list_any-values test name fields)
  where
    go : (named : Bool) → list_any (λ field. has_name name field && test field.value) fields ≡ list_any test (values_of name fields)
        → ((named && test field.value) || list_any (λ field. has_name name field && test field.value) fields)
        ≡ list_any test (map (λ field. field.value) (cond named (field ∷ filter (has_name name) fields) (filter (has_name name) fields)))
    go true further = ap (λ rest. test field.value || rest) further
    go false further = further

-- a field of another name is passed over
pub values-passed : (name : List ℕ) (fields : List Field) (i : ℕ) (field : Field) → i < length fields → field ≡ get_or fields i field → has_name name field ≡ false
    → values_of name (drop i fields) ≡ values_of name (drop (i + 1) fields)
values-passed name fields i field within at other =
    at_drop_more (values_of name) fields i field within ∙ ap (λ f. values_of name (f ∷ drop (i + 1) fields)) (sym at) ∙ rw other refl

-- a field of that name gives the next value
pub values-found : (name : List ℕ) (fields : List Field) (i : ℕ) (field : Field) → i < length fields → field ≡ get_or fields i field → has_name name field ≡ true
    → values_of name (drop i fields) ≡ field.value ∷ values_of name (drop (i + 1) fields)
values-found name fields i field within at named =
    at_drop_more (values_of name) fields i field within ∙ ap (λ f. values_of name (f ∷ drop (i + 1) fields)) (sym at) ∙ rw named refl
