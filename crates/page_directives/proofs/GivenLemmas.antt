-- The attributes that directives give together.
use Rattle.std.proofs.Common.{◌+◌, ◌<◌, length, drop, get_or, add-one, drop-cons, ◌≡◌, ℕ, Bool, true, false, cond, List, [], ◌∷◌, ◌++◌, refl, sym, ap, ◌∙◌, append_assoc, Option, Some, None}
use Rattle.std.specs.Prelude.{◌&&◌, ◌||◌, if◌then◌else◌}
use Rattle.std.specs.Option.{is_some}
use Rattle.std.specs.Str.{bytes_eq}
use Rattle.page_pieces.specs.declared.attribute.Attribute.{Attribute}
use Rattle.page_pieces.specs.Repeats.{has_name}
use Rattle.page_pieces.specs.Settings.{value_of, plain_text}
use Rattle.page_directives.specs.Checks.{Table, Check, by_row, value_faults}
use Rattle.page_directives.specs.Directive.{Directive, is_named, row_of}
use Rattle.page_directives.specs.Faults.{is_good}
use Rattle.page_directives.specs.Settings.{given, decided}

here : (b c : Bool) (found more behind : Option (List ℕ)) → (c ≡ true → more ≡ behind) → (b || c) ≡ true → cond b found more ≡ cond b found behind
here true c found more behind h e = refl
here false c found more behind h e = h e

-- a name that stands among the first is the first of that name
value_of_here : (name : List ℕ) (xs ys : List Attribute) → has_name name xs ≡ true → value_of name (xs ++ ys) ≡ value_of name xs
value_of_here name [] ys e = cc
value_of_here name (x ∷ xs) ys e =
    here (bytes_eq x.name name) (has_name name xs) (plain_text x.parts) (value_of name (xs ++ ys)) (value_of name xs) (value_of_here name xs ys) e

behind : (b c : Bool) (found more after : Option (List ℕ)) → (c ≡ false → more ≡ after) → (b || c) ≡ false → cond b found more ≡ after
behind true c found more after h e = cc
behind false c found more after h e = h e

value_of_behind : (name : List ℕ) (xs ys : List Attribute) → has_name name xs ≡ false → value_of name (xs ++ ys) ≡ value_of name ys
value_of_behind name [] ys e = refl
value_of_behind name (x ∷ xs) ys e =
    behind (bytes_eq x.name name) (has_name name xs) (plain_text x.parts) (value_of name (xs ++ ys)) (value_of name ys) (value_of_behind name xs ys) e

-- the item at a place and those behind it
item_at : {A : Type 0} (xs : List A) (i : ℕ) (x : A) → i < length xs → x ≡ get_or xs i x → drop i xs ≡ x ∷ drop (i + 1) xs
item_at xs i x within is = drop-cons xs i x within ∙ (λ k. sym is k ∷ drop (sym (add-one i) k) xs)

value_of_first : (giver name : List ℕ) (own : List Attribute) (d : Directive) (ds : List Directive)
    → value_of name (given giver (d ∷ ds) ++ own) ≡ cond (is_named giver d && has_name name d.attributes) (value_of name d.attributes) (value_of name (given giver ds ++ own))
value_of_first giver name own d ds = by_name (is_named giver d)
  where
    by_given : (b : Bool) → has_name name d.attributes ≡ b
        → value_of name (d.attributes ++ (given giver ds ++ own)) ≡ cond b (value_of name d.attributes) (value_of name (given giver ds ++ own))
    by_given true e = value_of_here name d.attributes (given giver ds ++ own) e
    by_given false e = value_of_behind name d.attributes (given giver ds ++ own) e

    by_name : (b : Bool) → value_of name ((cond b d.attributes [] ++ given giver ds) ++ own) ≡ cond (b && has_name name d.attributes) (value_of name d.attributes) (value_of name (given giver ds ++ own))
    by_name false = refl
    by_name true = ap (value_of name) (append_assoc d.attributes (given giver ds) own) ∙ by_given (has_name name d.attributes) refl

-- the value of an attribute is that which the directive at a place gives it, where it gives one, or else that which those behind it give
pub value_at : (giver name : List ℕ) (own : List Attribute) (ds : List Directive) (i : ℕ) (d : Directive) (gives : Bool) → i < length ds → d ≡ get_or ds i d
    → gives ≡ (is_named giver d && has_name name d.attributes)
    → value_of name (given giver (drop i ds) ++ own) ≡ cond gives (value_of name d.attributes) (value_of name (given giver (drop (i + 1) ds) ++ own))
value_at giver name own ds i d gives within is e =
    ap (λ (ds : List Directive). value_of name (given giver ds ++ own)) (item_at ds i d within is)
    ∙ (value_of_first giver name own d (drop (i + 1) ds) ∙ ap (λ b. cond b (value_of name d.attributes) (value_of name (given giver (drop (i + 1) ds) ++ own))) (sym e))

-- a value without a fault is a text
taken_is_text : (check : Option Check) (a : Attribute) → is_good (by_row check a) ≡ true → is_some (plain_text a.parts) ≡ true
taken_is_text None a e = cc
taken_is_text (Some check) a e = by_text (plain_text a.parts) e
  where
    by_text : (text : Option (List ℕ)) → is_good (value_faults check text) ≡ true → is_some text ≡ true
    by_text None e = e
    by_text (Some text) e = refl

-- the first, or else the other
abbrev pub or_else : Option (List ℕ) → Option (List ℕ) → Option (List ℕ)
or_else None other = other
or_else (Some text) other = Some text

first_or : (found other : Option (List ℕ)) → is_some found ≡ true → found ≡ or_else found other
first_or None other e = cc
first_or (Some text) other e = refl

by_value : (b c : Bool) (text all first others : Option (List ℕ)) → (c ≡ true → is_some text ≡ true) → all ≡ or_else first others
    → cond (b && c) text all ≡ or_else (cond (b && c) text first) others
by_value true true text all first others some e = first_or text others (some refl)
by_value true false text all first others some e = e
by_value false c text all first others some e = e

pub decided-append : (table : Table) (name : List ℕ) (xs ys : List Attribute) → decided table name (xs ++ ys) ≡ or_else (decided table name xs) (decided table name ys)
decided-append table name [] ys = refl
decided-append table name (a ∷ xs) ys =
    by_value (bytes_eq a.name name) (is_good (by_row (row_of name table) a)) (plain_text a.parts) (decided table name (xs ++ ys)) (decided table name xs) (decided table name ys)
    (taken_is_text (row_of name table) a) (decided-append table name xs ys)

decided_first : (table : Table) (giver name : List ℕ) (d : Directive) (ds : List Directive)
    → decided table name (given giver (d ∷ ds)) ≡ or_else (if is_named giver d then decided table name d.attributes else None) (decided table name (given giver ds))
decided_first table giver name d ds = by_name (is_named giver d)
  where
    by_name : (b : Bool) → decided table name (cond b d.attributes [] ++ given giver ds) ≡ or_else (cond b (decided table name d.attributes) None) (decided table name (given giver ds))
    by_name true = decided-append table name d.attributes (given giver ds)
    by_name false = refl

-- the directive at a place decides, or else those behind it
pub decided_at : (table : Table) (giver name : List ℕ) (ds : List Directive) (i : ℕ) (d : Directive) (value : Option (List ℕ)) → i < length ds → d ≡ get_or ds i d
    → value ≡ (if is_named giver d then decided table name d.attributes else None)
    → decided table name (given giver (drop i ds)) ≡ or_else value (decided table name (given giver (drop (i + 1) ds)))
decided_at table giver name ds i d value within is e =
    ap (λ (ds : List Directive). decided table name (given giver ds)) (item_at ds i d within is)
    ∙ (decided_first table giver name d (drop (i + 1) ds) ∙ ap (λ v. or_else v (decided table name (given giver (drop (i + 1) ds)))) (sym e))

-- what directives give, and those behind them
pub given-append : (name : List ℕ) (xs ys : List Directive) → given name (xs ++ ys) ≡ given name xs ++ given name ys
given-append name [] ys = refl
given-append name (d ∷ xs) ys = ap (λ (behind : List Attribute). cond (is_named name d) d.attributes [] ++ behind) (given-append name xs ys) ∙ sym (append_assoc (cond (is_named name d) d.attributes []) (given name xs) (given name ys))
