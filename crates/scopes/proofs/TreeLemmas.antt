-- Variables in a tree are entries in order.
use Rattle.std.proofs.Common.{◌≡◌, ℕ, List, [], ◌∷◌, map, not, Option, Some, None, Bool, true, false, Result, Ok, Err, OnOk, OnErr, Bor, Less, Equal, Greater, cond, refl, sym, ap, ◌∙◌, subst}
use Rattle.std.specs.declared.cmp.Ordering.{Ordering}
use Rattle.std.specs.BTreeMap.{insert_entry, is_at}
use Rattle.std.specs.Cmp.Lexicographic.{slice_cmp}
use Rattle.std.specs.List.{AllByRecursion}
use Rattle.std.specs.List.Sorted.{IsStrictlySortedBy}
use Rattle.std.specs.Map.{keys_of, lookup, remove_entry}
use Rattle.std.specs.Ordering.{nat_cmp, match_ordering}
use Rattle.std.specs.Prelude.{String, option_copied, option_map, string_bytes}
use Rattle.std.specs.Str.{bytes_eq}
use Rattle.std.specs.String.{string_cmp}
use Rattle.std.proofs.lemmas.Map.Text.{is_eq-slice_cmp}
use Rattle.std.proofs.lemmas.Slice.Eq.{bytes_eq-Decides}
use Rattle.pg_text.proofs.Halving.{by_order, order}
use Rattle.pg_value.specs.Attrs.{AreInOrder, entry_at, of_entries, with_entries, with_entry, without_entry}
use Rattle.pg_value.specs.Datum.{Datum}
use Rattle.pg_value.specs.Value.{datum_of, entry_of}
use Rattle.pg_value.specs.declared.value.Value.{Value}
use Rattle.pg_value.proofs.Gathered.{AreInOrder-of_entries, either, entry_at-with_entries, last_at, same_entries}
use Rattle.pg_value.proofs.Order.{AreInOrder-with_entry}
use Rattle.scopes.specs.ReadTree.{in_tree, told}
use Rattle.scopes.specs.Scopes.{Entries}

-- a variable that is put in
put_by : {A : Type 0} (o : Ordering) (name : String A) (v : Value) (e : String A × Value) (es put : List (String A × Value))
    → in_tree put ≡ with_entry (in_tree es) (string_bytes name) (datum_of v)
    → in_tree (match_ordering o ((name, v) ∷ e ∷ es) ((e.0, v) ∷ es) (e ∷ put))
    ≡ match_ordering o ((string_bytes name, datum_of v) ∷ told e ∷ in_tree es) ((string_bytes e.0, datum_of v) ∷ in_tree es) (told e ∷ with_entry (in_tree es) (string_bytes name) (datum_of v))
put_by Less name v e es put later = refl
put_by Equal name v e es put later = refl
put_by Greater name v e es put later = ap (λ more. told e ∷ more) later

pub in_tree-insert : {A : Type 0} (name : String A) (v : Value) (es : List (String A × Value))
    → in_tree (insert_entry string_cmp es name v) ≡ with_entry (in_tree es) (string_bytes name) (datum_of v)
in_tree-insert name v [] = refl
in_tree-insert name v (e ∷ es) = put_by (string_cmp name e.0) name v e es (insert_entry string_cmp es name v) (in_tree-insert name v es)

-- the test of a name among the names of a tree
abbrev at_name : {A : Type 0} → List ℕ → String A → Bool
at_name name = is_at (λ k. slice_cmp nat_cmp name (string_bytes k))

found_by : (b : Bool) (v : Value) (o : Option Value) → option_map datum_of (cond b (Some v) o) ≡ cond b (Some (datum_of v)) (option_map datum_of o)
found_by true v o = refl
found_by false v o = refl

-- what stands under a name
pub in_tree-lookup : {A : Type 0} (name : List ℕ) (es : List (String A × Value)) → option_map datum_of (lookup (at_name name) es) ≡ entry_at name (in_tree es)
in_tree-lookup name [] = refl
in_tree-lookup name (e ∷ es) =
    found_by (at_name name e.0) e.1 (lookup (at_name name) es)
    ∙ ap (λ b. cond b (Some (datum_of e.1)) (option_map datum_of (lookup (at_name name) es))) (is_eq-slice_cmp name (string_bytes e.0))
    ∙ ap (cond (bytes_eq name (string_bytes e.0)) (Some (datum_of e.1))) (in_tree-lookup name es)

abbrev AreAbove : List ℕ → Entries → Type 0
AreAbove name es = AllByRecursion (λ m. order name m ≡ Less) (keys_of es)

-- variables of greater names stay
stay : (name : List ℕ) (es : Entries) → AreAbove name es → without_entry es name ≡ es
stay name [] above = refl
stay name (e ∷ es) above =
    ap (λ b. cond (not b) (e ∷ without_entry es name) (without_entry es name)) (by_order Less name e.0 above.0) ∙ ap (λ more. e ∷ more) (stay name es above.1)

taken_by : {A : Type 0} (b : Bool) (name : List ℕ) (e : String A × Value) (es taken : List (String A × Value)) → bytes_eq name (string_bytes e.0) ≡ b
    → AreAbove (string_bytes e.0) (in_tree es) → in_tree taken ≡ without_entry (in_tree es) name
    → in_tree (cond b es (e ∷ taken)) ≡ cond (not b) (told e ∷ without_entry (in_tree es) name) (without_entry (in_tree es) name)
taken_by true name e es taken is above later =
    let same : name ≡ string_bytes e.0 = (bytes_eq-Decides name (string_bytes e.0)).0 is in
    sym (stay name (in_tree es) (subst (λ n. AreAbove n (in_tree es)) (sym same) above))
taken_by false name e es taken is above later = ap (λ more. told e ∷ more) later

-- a variable that is taken out
pub in_tree-remove : {A : Type 0} (name : List ℕ) (es : List (String A × Value)) → AreInOrder (in_tree es)
    → in_tree (remove_entry (at_name name) es) ≡ without_entry (in_tree es) name
unfolding IsStrictlySortedBy
in_tree-remove name [] sorted = refl
in_tree-remove name (e ∷ es) sorted =
    ap (λ b. in_tree (cond b es (e ∷ remove_entry (at_name name) es))) (is_eq-slice_cmp name (string_bytes e.0))
    ∙ taken_by (bytes_eq name (string_bytes e.0)) name e es (remove_entry (at_name name) es) refl sorted.0 (in_tree-remove name es sorted.1)

or_none : (o : Option Datum) → either o None ≡ o
or_none (Some d) = refl
or_none None = refl

above_none : (name : List ℕ) (es : Entries) → AreAbove name es → entry_at name es ≡ None
above_none name [] above = refl
above_none name (e ∷ es) above = ap (λ b. cond b (Some e.1) (entry_at name es)) (by_order Less name e.0 above.0) ∙ above_none name es above.1

last_by : (b : Bool) (name : List ℕ) (e : List ℕ × Datum) (es : Entries) → bytes_eq name e.0 ≡ b → AreAbove e.0 es → last_at name es ≡ entry_at name es
    → either (last_at name es) (cond b (Some e.1) None) ≡ cond b (Some e.1) (entry_at name es)
last_by true name e es is above later =
    let same : name ≡ e.0 = (bytes_eq-Decides name e.0).0 is in
    ap (λ o. either o (Some e.1)) (later ∙ above_none name es (subst (λ n. AreAbove n es) (sym same) above))
last_by false name e es is above later = or_none (last_at name es) ∙ later

last_in_order : (name : List ℕ) (es : Entries) → AreInOrder es → last_at name es ≡ entry_at name es
unfolding IsStrictlySortedBy
last_in_order name [] sorted = refl
last_in_order name (e ∷ es) sorted = last_by (bytes_eq name e.0) name e es refl sorted.0 (last_in_order name es sorted.1)

-- entries in order, put in one after the other
pub of_entries_in_order : (es : Entries) → AreInOrder es → of_entries es ≡ es
of_entries_in_order es sorted =
    same_entries _ _ (AreInOrder-of_entries es) sorted (λ name. entry_at-with_entries name es [] ∙ or_none (last_at name es) ∙ last_in_order name es sorted)

-- one more of them
pub more_in_tree : (tree new : Entries) (old left : List (List ℕ × Value)) (e : List ℕ × Value) (all : Entries) → old ≡ e ∷ left → new ≡ with_entry tree e.0 (datum_of e.1)
    → with_entries tree (map entry_of old) ≡ all → with_entries new (map entry_of left) ≡ all
more_in_tree tree new old left e all next put so_far =
    ap (λ es. with_entries es (map entry_of left)) put ∙ sym (ap (λ es. with_entries tree (map entry_of es)) next) ∙ so_far

-- the order stays, whether or not the variable was put in
pub order-put : {A T E : Type 0} (r : Result T E) (old new : List (String A × Value)) (name : List ℕ) (d : Datum)
    → OnOk r (in_tree new ≡ with_entry (in_tree old) name d) → OnErr r (new ≡ old) → AreInOrder (in_tree old) → AreInOrder (in_tree new)
order-put (Ok x) old new name d ok err sorted = subst AreInOrder (sym ok) (AreInOrder-with_entry (in_tree old) name d sorted)
order-put (Err e) old new name d ok err sorted = subst (λ es. AreInOrder (in_tree es)) (sym err) sorted

-- what was lent is the value itself
pub lent : (o : Option (Bor Value)) → option_map (λ value. datum_of value.now) o ≡ option_map datum_of (option_copied o)
lent None = refl
lent (Some value) = refl
