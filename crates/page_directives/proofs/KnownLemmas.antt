-- What directives said first, in maps.
use Rattle.std.proofs.Common.{◌≡◌, ℕ, Bool, true, false, cond, List, [], ◌∷◌, ◌++◌, Bor, refl, sym, ap, ◌∙◌, append_assoc, append-nil, add-one, take-suc, length, take, get_or, ◌<◌, ◌+◌, Option, Some, None}
use Rattle.std.specs.BTreeMap.{BTreeMap, get, Updates}
use Rattle.std.specs.Option.{is_some, option_map, option_or}
use Rattle.std.specs.Str.{bytes_eq}
use Rattle.std.proofs.lemmas.Bool.Decides.{same_from_decides, Decides-like}
use Rattle.std.proofs.lemmas.Map.Text.{is_eq-slice_cmp}
use Rattle.std.proofs.lemmas.Slice.Eq.{bytes_eq-Decides}
use Rattle.page_pieces.specs.declared.attribute.Attribute.{Attribute}
use Rattle.page_pieces.specs.Settings.{plain_text, value_of}
use Rattle.page_directives.specs.declared.target.Target.{Target}
use Rattle.page_directives.specs.Directive.{Directive, is_named}
use Rattle.page_directives.specs.ReadKnown.{text_order, first_named, HasFirst, HasTargets}
use Rattle.page_directives.specs.Settings.{given}
use Rattle.page_directives.specs.Taglibs.{is_prefix, or_target, prefix_in, target_in, target_of}
use Rattle.page_directives.proofs.GivenLemmas.{given-append}

or_none : {V : Type 0} (o : Option V) → option_or o None ≡ o
or_none None = refl
or_none (Some v) = refl

nothing_or : {V : Type 0} (o p : Option V) → is_some o ≡ false → option_or o p ≡ p
nothing_or None p e = refl
nothing_or (Some v) p e = cc

something_or : {V : Type 0} (o p : Option V) → is_some o ≡ true → option_or o p ≡ o
something_or None p e = cc
something_or (Some v) p e = refl

same_text : (xs ys : List ℕ) → bytes_eq xs ys ≡ true → xs ≡ ys
same_text xs ys e = (bytes_eq-Decides xs ys).0 e

same_test : (xs ys : List ℕ) → bytes_eq xs ys ≡ bytes_eq ys xs
same_test xs ys = same_from_decides (bytes_eq xs ys) (bytes_eq ys xs) (bytes_eq-Decides xs ys) (Decides-like (bytes_eq ys xs) sym sym (bytes_eq-Decides ys xs))

module _ {X V : Type 0} (view : Option X → Option V) (same : (o : Option X) → is_some (view o) ≡ is_some o) (f : List ℕ → Option V) where
  -- a map that has what a function has under each name, with a value more under a new name
  pub found_more : (old new : BTreeMap (Bor (List ℕ)) X) (key : Bor (List ℕ)) (x : X) → is_some (get text_order old key) ≡ false → Updates text_order old new key (Some x)
      → ((name : Bor (List ℕ)) → view (get text_order old name) ≡ f name.now)
      → (name : Bor (List ℕ)) → view (get text_order new name) ≡ option_or (f name.now) (cond (bytes_eq key.now name.now) (view (Some x)) None)
  found_more old new key x absent updates has name =
      ap view (updates.0 name ∙ ap (λ b. cond b (Some x) (get text_order old name)) (is_eq-slice_cmp key.now name.now)) ∙ by_name (bytes_eq key.now name.now) refl
    where
      none : bytes_eq key.now name.now ≡ true → is_some (f name.now) ≡ false
      none e = ap (λ n. is_some (f n)) (sym (same_text key.now name.now e)) ∙ (ap is_some (sym (has key)) ∙ (same (get text_order old key) ∙ absent))

      by_name : (b : Bool) → bytes_eq key.now name.now ≡ b → view (cond b (Some x) (get text_order old name)) ≡ option_or (f name.now) (cond b (view (Some x)) None)
      by_name false e = has name ∙ sym (or_none (f name.now))
      by_name true e = sym (nothing_or (f name.now) (view (Some x)) (none e))

  -- the same where the name is there
  pub found_still : (old : BTreeMap (Bor (List ℕ)) X) (key : Bor (List ℕ)) (v : Option V) → is_some (get text_order old key) ≡ true
      → ((name : Bor (List ℕ)) → view (get text_order old name) ≡ f name.now)
      → (name : Bor (List ℕ)) → view (get text_order old name) ≡ option_or (f name.now) (cond (bytes_eq key.now name.now) v None)
  found_still old key v there has name = has name ∙ sym (by_name (bytes_eq key.now name.now) refl)
    where
      some : bytes_eq key.now name.now ≡ true → is_some (f name.now) ≡ true
      some e = ap (λ n. is_some (f n)) (sym (same_text key.now name.now e)) ∙ (ap is_some (sym (has key)) ∙ (same (get text_order old key) ∙ there))

      by_name : (b : Bool) → bytes_eq key.now name.now ≡ b → option_or (f name.now) (cond b v None) ≡ f name.now
      by_name false e = or_none (f name.now)
      by_name true e = something_or (f name.now) v (some e)

-- the first of these attributes, and of one more
first_named-more : (name : List ℕ) (all : List Attribute) (a : Attribute) → first_named name (all ++ a ∷ []) ≡ option_or (first_named name all) (cond (bytes_eq a.name name) (Some a) None)
first_named-more name [] a = refl
first_named-more name (b ∷ all) a = by_name (bytes_eq b.name name) (first_named name (all ++ a ∷ [])) (first_named name all) (first_named-more name all a)
  where
    by_name : (c : Bool) (more first : Option Attribute) → more ≡ option_or first (cond (bytes_eq a.name name) (Some a) None) → cond c (Some b) more ≡ option_or (cond c (Some b) first) (cond (bytes_eq a.name name) (Some a) None)
    by_name true more first e = refl
    by_name false more first e = e

now_same : (o : Option (Bor Attribute)) → is_some (option_map (λ a. a.now) o) ≡ is_some o
now_same None = refl
now_same (Some a) = refl

pub first_more : (old new : BTreeMap (Bor (List ℕ)) (Bor Attribute)) (key : Bor (List ℕ)) (a : Bor Attribute) (all : List Attribute) → key.now ≡ a.now.name → is_some (get text_order old key) ≡ false
    → Updates text_order old new key (Some a) → HasFirst old all → HasFirst new (all ++ a.now ∷ [])
first_more old new key a all key_is absent updates has name =
    found_more (option_map (λ a. a.now)) now_same (λ n. first_named n all) old new key a absent updates has name
    ∙ (ap (λ k. option_or (first_named name.now all) (cond (bytes_eq k name.now) (Some a.now) None)) key_is ∙ sym (first_named-more name.now all a.now))

pub first_still : (old : BTreeMap (Bor (List ℕ)) (Bor Attribute)) (key : Bor (List ℕ)) (a : Attribute) (all : List Attribute) → key.now ≡ a.name → is_some (get text_order old key) ≡ true
    → HasFirst old all → HasFirst old (all ++ a ∷ [])
first_still old key a all key_is there has name =
    found_still (option_map (λ a. a.now)) now_same (λ n. first_named n all) old key (Some a) there has name
    ∙ (ap (λ k. option_or (first_named name.now all) (cond (bytes_eq k name.now) (Some a) None)) key_is ∙ sym (first_named-more name.now all a))

-- a value is that of the first attribute of its name, or else one behind
abbrev pub value_found : Option Attribute → Option (List ℕ) → Option (List ℕ)
value_found None other = other
value_found (Some a) other = plain_text a.parts

pub value_first : (name : List ℕ) (all own : List Attribute) → value_of name (all ++ own) ≡ value_found (first_named name all) (value_of name own)
value_first name [] own = refl
value_first name (a ∷ all) own = by_name (bytes_eq a.name name) (value_of name (all ++ own)) (first_named name all) (value_first name all own)
  where
    by_name : (c : Bool) (more : Option (List ℕ)) (first : Option Attribute) → more ≡ value_found first (value_of name own) → cond c (plain_text a.parts) more ≡ value_found (cond c (Some a) first) (value_of name own)
    by_name true more first e = refl
    by_name false more first e = e

-- what a prefix stands for behind one more directive
target_of-more : (prefix : List ℕ) (ds : List Directive) (d : Directive) → target_of prefix (ds ++ d ∷ []) ≡ option_or (target_of prefix ds) (cond (is_prefix prefix (prefix_in d)) (target_in d.attributes) None)
target_of-more prefix [] d = by_prefix (is_prefix prefix (prefix_in d)) (target_in d.attributes)
  where
    by_prefix : (b : Bool) (t : Option Target) → cond b (or_target t None) None ≡ cond b t None
    by_prefix false t = refl
    by_prefix true None = refl
    by_prefix true (Some t) = refl
target_of-more prefix (e ∷ ds) d =
    by_prefix (is_prefix prefix (prefix_in e)) (target_in e.attributes) (target_of prefix (ds ++ d ∷ [])) (target_of prefix ds) (cond (is_prefix prefix (prefix_in d)) (target_in d.attributes) None) (target_of-more prefix ds d)
  where
    by_prefix : (b : Bool) (t more first last : Option Target) → more ≡ option_or first last → cond b (or_target t more) more ≡ option_or (cond b (or_target t first) first) last
    by_prefix false t more first last e = e
    by_prefix true None more first last e = e
    by_prefix true (Some t) more first last e = refl

-- a directive without a prefix, or without a target, adds nothing
pub targets_no_prefix : (known : BTreeMap (Bor (List ℕ)) Target) (ds : List Directive) (d : Directive) → prefix_in d ≡ None → HasTargets known ds → HasTargets known (ds ++ d ∷ [])
targets_no_prefix known ds d none has prefix =
    has prefix ∙ sym (target_of-more prefix.now ds d ∙ (ap (λ p. option_or (target_of prefix.now ds) (cond (is_prefix prefix.now p) (target_in d.attributes) None)) none ∙ or_none (target_of prefix.now ds)))

pub targets_no_target : (known : BTreeMap (Bor (List ℕ)) Target) (ds : List Directive) (d : Directive) → target_in d.attributes ≡ None → HasTargets known ds → HasTargets known (ds ++ d ∷ [])
targets_no_target known ds d none has prefix =
    has prefix
    ∙ sym (target_of-more prefix.now ds d
    ∙ (ap (λ t. option_or (target_of prefix.now ds) (cond (is_prefix prefix.now (prefix_in d)) t None)) none ∙ by_prefix (is_prefix prefix.now (prefix_in d))))
  where
    by_prefix : (b : Bool) → option_or (target_of prefix.now ds) (cond b None None) ≡ target_of prefix.now ds
    by_prefix true = or_none (target_of prefix.now ds)
    by_prefix false = or_none (target_of prefix.now ds)

prefix_or : (prefix key : List ℕ) (ds : List Directive) (d : Directive) (target : Target) → prefix_in d ≡ Some key → target_in d.attributes ≡ Some target
    → option_or (target_of prefix ds) (cond (bytes_eq key prefix) (Some target) None) ≡ target_of prefix (ds ++ d ∷ [])
prefix_or prefix key ds d target is stands =
    ap (λ b. option_or (target_of prefix ds) (cond b (Some target) None)) (same_test key prefix)
    ∙ ((λ i. option_or (target_of prefix ds) (cond (is_prefix prefix (sym is i)) (sym stands i) None)) ∙ sym (target_of-more prefix ds d))

pub targets_more : (old new : BTreeMap (Bor (List ℕ)) Target) (key : Bor (List ℕ)) (target : Target) (ds : List Directive) (d : Directive) → prefix_in d ≡ Some key.now → target_in d.attributes ≡ Some target
    → is_some (get text_order old key) ≡ false → Updates text_order old new key (Some target) → HasTargets old ds → HasTargets new (ds ++ d ∷ [])
targets_more old new key target ds d is stands absent updates has prefix =
    found_more (λ o. o) (λ o. refl) (λ p. target_of p ds) old new key target absent updates has prefix ∙ prefix_or prefix.now key.now ds d target is stands

pub targets_still : (old : BTreeMap (Bor (List ℕ)) Target) (key : Bor (List ℕ)) (target : Target) (ds : List Directive) (d : Directive) → prefix_in d ≡ Some key.now → target_in d.attributes ≡ Some target
    → is_some (get text_order old key) ≡ true → HasTargets old ds → HasTargets old (ds ++ d ∷ [])
targets_still old key target ds d is stands there has prefix =
    found_still (λ o. o) (λ o. refl) (λ p. target_of p ds) old key (Some target) there has prefix ∙ prefix_or prefix.now key.now ds d target is stands

given_one : (giver : List ℕ) (ds : List Directive) (d : Directive) → given giver (ds ++ d ∷ []) ≡ given giver ds ++ cond (is_named giver d) d.attributes []
given_one giver ds d = given-append giver ds (d ∷ []) ∙ ap (λ (attributes : List Attribute). given giver ds ++ attributes) (append-nil (cond (is_named giver d) d.attributes []))

-- what a directive gives comes behind what those before it gave
pub given_more : (giver : List ℕ) (known : BTreeMap (Bor (List ℕ)) (Bor Attribute)) (ds : List Directive) (d : Directive) → is_named giver d ≡ true
    → HasFirst known (given giver ds ++ d.attributes) → HasFirst known (given giver (ds ++ d ∷ []))
given_more giver known ds d is has name =
    has name ∙ ap (first_named name.now) (sym (given_one giver ds d ∙ ap (λ b. given giver ds ++ cond b d.attributes []) is))

-- a directive of another name gives nothing
pub given_still : (giver : List ℕ) (known : BTreeMap (Bor (List ℕ)) (Bor Attribute)) (ds : List Directive) (d : Directive) → is_named giver d ≡ false
    → HasFirst known (given giver ds) → HasFirst known (given giver (ds ++ d ∷ []))
given_still giver known ds d is has name =
    has name ∙ ap (first_named name.now) (sym (given_one giver ds d ∙ (ap (λ b. given giver ds ++ cond b d.attributes []) is ∙ append-nil (given giver ds))))

-- what stands behind references
abbrev pub text_now : Bor (List ℕ) → List ℕ
text_now text = text.now

abbrev pub attribute_now : Bor Attribute → Attribute
attribute_now a = a.now

abbrev pub target_now : Bor Target → Target
target_now target = target.now

-- a value that is known, or one behind
pub value_known : (known : BTreeMap (Bor (List ℕ)) (Bor Attribute)) (name : Bor (List ℕ)) (all own : List Attribute) (found : Option (Bor Attribute)) → found ≡ get text_order known name → HasFirst known all
    → value_found (option_map (λ a. a.now) found) (value_of name.now own) ≡ value_of name.now (all ++ own)
value_known known name all own found is has =
    ap (λ o. value_found (option_map attribute_now o) (value_of name.now own)) is
    ∙ (ap (λ o. value_found o (value_of name.now own)) (has name) ∙ sym (value_first name.now all own))

pub front_more : (all attributes : List Attribute) (i : ℕ) (a : Attribute) → i < length attributes → a ≡ get_or attributes i a → (all ++ take i attributes) ++ a ∷ [] ≡ all ++ take (i + 1) attributes
front_more all attributes i a within is =
    append_assoc all (take i attributes) (a ∷ [])
    ∙ ap (λ (xs : List Attribute). all ++ xs) (sym (ap (λ n. take n attributes) (add-one i) ∙ take-suc attributes i a within ∙ ap (λ a. take i attributes ++ a ∷ []) (sym is)))
