-- The forms of the values of attributes mean these values.
use Rattle.std.proofs.Common.{◌≡◌, ℕ, zero, suc, ◌+◌, ◌-◌, ◌≤◌, Bool, true, false, List, [], ◌∷◌, ◌++◌, length, map, Some, None, Option, Ok, Err, bytes_eq, refl, sym, ap, ◌∙◌, subst, arith, append_assoc, append-nil, nat_lt, true≢false}
use Rattle.std.specs.Prelude.{take, drop, ◌||◌, if◌then◌else◌}
use Rattle.std.specs.List.{prefix_len, suffix_len}
use Rattle.std.proofs.lemmas.Bool.Decides.{nat_tests}
use Rattle.std.proofs.lemmas.Slice.Eq.{bytes_eq-Decides}
use Rattle.el_coercion.specs.Text.{made, text_of}
use Rattle.jstl_functions.specs.Functions.{called}
use Rattle.jstl_functions.specs.Texts.{is_low, trimmed_front}
use Rattle.out_buffer.specs.Writer.{body_answer, innermost, without_body, with_body}
use Rattle.page_code.specs.declared.op.Op.TheVariants as op
use Rattle.page_code.specs.declared.operands.Coercion as code
use Rattle.page_code.specs.declared.operands.Coercion.TheVariants as coercion
use Rattle.page_meaning.specs.Attributes.{Coercion, as_it_is, to_text, to_text_or_null, to_number, to_number_or_null, to_truth, to_truth_or_null, unevaluated, coerced, joined_parts, parts_value, attribute_value, and_others, name_of_evaluated}
use Rattle.page_meaning.specs.Bodies.{keeping, trimmed, given_value}
use Rattle.page_meaning.specs.Context.{Served, Here, Deeper}
use Rattle.page_meaning.specs.Expressions.{ev}
use Rattle.page_meaning.specs.Page.{Part, words, expression}
use Rattle.page_meaning.specs.State.{State, in_writer}
use Rattle.page_meaning.specs.Went.{Did, Went, Well, then_do, result_of}
use Rattle.page_table.specs.Operands.{coercion_of}
use Rattle.page_table.specs.Operations.{joined, leaving_one}
use Rattle.page_table.specs.Program.{Stored, Serving}
use Rattle.page_table.specs.Seat.{Seat}
use Rattle.pg_text.specs.declared.place.Place.{Place}
use Rattle.pg_value.specs.Datum.{Datum, text}
use Rattle.pg_value.specs.Limits.{is_over, max_weight}
use Rattle.pg_value.specs.declared.fault.RunFault.TheVariants as fault
use Rattle.pg_value.specs.declared.function.Function.TheVariants as function
use Rattle.code_lowering.specs.Expressions.{coerces, tree_form}
use Rattle.code_forms.specs.Forms.{Form, both, above, does, kept}
use Rattle.code_lowering.specs.Values.{part_form, texts_form, parts_form, kept_form, with_value}
use Rattle.code_lowering.proofs.Arranged.{Named, names_of, values_of, values_length, later, last_at}
use Rattle.code_lowering.proofs.Goes.{Goes, Runs0, Runs1, nothing_goes, both_goes, both_so, goes_as, does_one, kept_goes}
use Rattle.code_lowering.proofs.Joins.{then_same, then_then, yields_then, yields_behind, yields_result, then_result, maps_goes, answered_goes}
use Rattle.code_lowering.proofs.Parts.{Yields, onto, onto_append}
use Rattle.code_lowering.proofs.Trees.{SeatOf, serving_by, Does1, constant_goes, on_top, tree_goes}

-- the text of a part, and the texts of parts
abbrev pub part_text : Served → Here → Place → Part → State → Went (List ℕ)
part_text served here place (words w) s = Well w s
part_text served here place (expression e) s = then_do (ev served here place e s) (λ d s1. result_of place (text_of d) s1)

abbrev pub part_texts : Served → Here → Place → List Part → State → Went (List (List ℕ))
part_texts served here place [] s = Well [] s
part_texts served here place (p ∷ rest) s = then_do (part_text served here place p s) (λ t s1. then_do (part_texts served here place rest s1) (λ ts s2. Well (t ∷ ts) s2))

abbrev flat_text : List (List ℕ) → List ℕ
flat_text [] = []
flat_text (t ∷ ts) = t ++ flat_text ts

abbrev texts : List (List ℕ) → List Datum
texts ts = map text ts

joined_texts : (ts : List (List ℕ)) → joined (texts ts) ≡ flat_text ts
joined_texts [] = refl
joined_texts (t ∷ ts) = ap (λ l. t ++ l) (joined_texts ts)

texts_length : (ts : List (List ℕ)) (n : ℕ) → length ts ≡ n → length (texts ts) ≡ n
texts_length [] n e = e
texts_length (t ∷ ts) n e = let h = texts_length ts (length ts) refl in omega (arith, e, h)

-- the parts joined are the parts' texts joined
joined_same : (served : Served) (here : Here) (place : Place) (parts : List Part) (front : List ℕ) (s : State)
    → joined_parts served here place parts front s ≡ then_do (part_texts served here place parts s) (λ ts s1. Well (front ++ flat_text ts) s1)
joined_same served here place [] front s = ap (λ l. Well l s) (sym (append-nil front))
joined_same served here place (words w ∷ rest) front s =
    joined_same served here place rest (front ++ w) s
    ∙ then_same (part_texts served here place rest s) _ _ (λ ts s1. ap (λ l. Well l s1) (append_assoc front w (flat_text ts)))
    ∙ sym (then_then (part_texts served here place rest s) (λ ts s2. Well (w ∷ ts) s2) (λ ts s1. Well (front ++ flat_text ts) s1))
joined_same served here place (expression e ∷ rest) front s =
    let value = ev served here place e s in
    let ends : List (List ℕ) → State → Went (List ℕ) = λ ts s1. Well (front ++ flat_text ts) s1 in
    let more : List ℕ → State → Went (List (List ℕ)) = λ t s1. then_do (part_texts served here place rest s1) (λ ts s2. Well (t ∷ ts) s2) in
    let one : (t : List ℕ) (s1 : State) → joined_parts served here place rest (front ++ t) s1 ≡ then_do (more t s1) ends =
    λ t s1. joined_same served here place rest (front ++ t) s1 ∙ then_same (part_texts served here place rest s1) _ _ (λ ts s2. ap (λ l. Well l s2) (append_assoc front t (flat_text ts)))
    ∙ sym (then_then (part_texts served here place rest s1) (λ ts s2. Well (t ∷ ts) s2) ends) in
    then_same value _ _ (λ d s1. then_same (result_of place (text_of d) s1) _ _ one ∙ sym (then_then (result_of place (text_of d) s1) more ends))
    ∙ sym (then_then value (λ d s1. then_do (result_of place (text_of d) s1) more) ends)
    ∙ sym (ap (λ w. then_do w ends) (then_then value (λ d s1. result_of place (text_of d) s1) more))

texts_counted : (served : Served) (here : Here) (place : Place) (parts : List Part) (s : State) → Yields (λ ts. length ts ≡ length parts) (part_texts served here place parts s)
texts_counted served here place [] s = refl
texts_counted served here place (p ∷ rest) s =
    yields_then (λ ts. length ts ≡ length (p ∷ rest)) (part_text served here place p s) _ (λ t s1.
    yields_behind (λ ts. length ts ≡ length rest) (λ ts. length ts ≡ length (p ∷ rest)) (part_texts served here place rest s1) _ (texts_counted served here place rest s1) (λ ts s2 h. ap suc h))

-- a text that was kept isn't too large, and trimmed it isn't either
abbrev Small : List ℕ → Type 0
Small t = is_over (text t) ≡ false

small_body : (t body : List ℕ) → body_answer body ≡ Ok t → Small t
small_body t body e = go (is_over (text body)) refl
  where
    go : (b : Bool) → is_over (text body) ≡ b → Small t
    go false h =
        let answer : Ok body ≡ Ok t = sym (ap (λ b. if b then Err fault.ValueTooLarge else Ok body) h) ∙ e in
        let same : body ≡ t = cc in
        subst Small same h
    go true h = let answer : Err fault.ValueTooLarge ≡ Ok t = sym (ap (λ b. if b then Err fault.ValueTooLarge else Ok body) h) ∙ e in absurd (cc)

pub keeping_small : (place : Place) (part : State → Did) (s : State) → Yields Small (keeping place part s)
keeping_small place part s =
    yields_then Small (part (in_writer (with_body s.writer) s)) _
    (λ u s1. yields_result Small place (body_answer (innermost s1.writer.kept)) (in_writer (without_body s1.writer) s1) (λ t e. small_body t (innermost s1.writer.kept) e))

take_less : (k : ℕ) (t : List ℕ) → length (take k t) ≤ length t
take_less zero [] = omega arith
take_less zero (b ∷ t) = omega arith
take_less (suc k) [] = omega arith
take_less (suc k) (b ∷ t) = let h = take_less k t in omega (arith, h)

drop_less : (k : ℕ) (t : List ℕ) → length (drop k t) ≤ length t
drop_less zero t = omega arith
drop_less (suc k) [] = omega arith
drop_less (suc k) (b ∷ t) = let h = drop_less k t in omega (arith, h)

small_less : (t u : List ℕ) → length u ≤ length t → Small t → Small u
small_less t u less h = go (nat_lt max_weight (16 + length t)) refl h
  where
    go : (b : Bool) → nat_lt max_weight (16 + length t) ≡ b → Small t → Small u
    go true e h = absurd (true≢false (sym (ap (λ x. x || false) e) ∙ h))
    go false e h = let no : nat_lt max_weight (16 + length u) ≡ false = grind (arith, nat_tests) in ap (λ x. x || false) no

trimmed_small : (t : List ℕ) → Small t → Small (trimmed t)
trimmed_small t h = small_less t (trimmed t) (trimmed_less t) h
  where
    trimmed_less : (t : List ℕ) → length (trimmed t) ≤ length t
    trimmed_less t =
        let front = drop_less (prefix_len is_low t) t in let back = take_less (length (trimmed_front t) - suffix_len is_low (trimmed_front t)) (trimmed_front t) in omega (arith, front, back)

trim_is : (t : List ℕ) → Small t → called function.Trim (text t ∷ []) ≡ Ok (text (trimmed t))
trim_is t h = ap (λ b. if b then Err fault.ValueTooLarge else Ok (text (trimmed t))) (trimmed_small t h)

-- a value is one that was coerced so
pub record CoercedTo (c : Coercion) (d : Datum) : Type 0 where
  pub from : Datum
  pub is : coerced c from ≡ Ok d

abbrev pub AllCoerced : (List ℕ → Coercion) → Named → Type 0
AllCoerced c [] = Unit {0}
AllCoerced c (e ∷ es) = CoercedTo (c e.0) e.1 × AllCoerced c es

-- values under these names, each coerced so
pub record Given (c : List ℕ → Coercion) (names : List (List ℕ)) (ds : List Datum) : Type 0 where
  pub named : Named
  pub names_are : names_of named ≡ names
  pub values_are : values_of named ≡ ds
  pub coerced_so : AllCoerced c named

pub given_none : (c : List ℕ → Coercion) → Given c [] []
given_none c = record { named = []; names_are = refl; values_are = refl; coerced_so = tt }

given_more : (c : List ℕ → Coercion) (n : List ℕ) (d : Datum) (names : List (List ℕ)) (ds : List Datum) → CoercedTo (c n) d → Given c names ds → Given c (n ∷ names) (d ∷ ds)
given_more c n d names ds h g = record { named = (n, d) ∷ g.named; names_are = ap (λ l. n ∷ l) g.names_are; values_are = ap (λ l. d ∷ l) g.values_are; coerced_so = (h, g.coerced_so) }

pub given_length : (c : List ℕ → Coercion) (names : List (List ℕ)) (ds : List Datum) → Given c names ds → length ds ≡ length names
given_length c names ds g = sym (ap length g.values_are) ∙ values_length g.named ∙ ap length g.names_are

-- what stands under a name was coerced so
pub last_coerced : (c : List ℕ → Coercion) (es : Named) → AllCoerced c es → (w : List ℕ) (d : Datum) → last_at w es ≡ Some d → CoercedTo (c w) d
last_coerced c [] all w d e = absurd (cc)
last_coerced c (x ∷ es) all w d e = go (last_at w es) (bytes_eq w x.0) refl refl e (λ again. last_coerced c es all.1 w d again)
  where
    go : (r : Option Datum) (b : Bool) → last_at w es ≡ r → bytes_eq w x.0 ≡ b → later r b x.1 ≡ Some d → (last_at w es ≡ Some d → CoercedTo (c w) d) → CoercedTo (c w) d
    go (Some y) b h k e again = again (h ∙ e)
    go None true h k e again =
        let same : w ≡ x.0 = (bytes_eq-Decides w x.0).0 k in
        let is : x.1 ≡ d = cc in
        subst (λ v. CoercedTo (c w) v) is (subst (λ n. CoercedTo (c n) x.1) (sym same) all.0)
    go None false h k e again = absurd (cc)

-- one value that was coerced so
abbrev IsOne : Coercion → List Datum → Type 0
IsOne k [] = ⊥
IsOne k (x ∷ []) = CoercedTo k x
IsOne k (x ∷ y ∷ rest) = ⊥

abbrev evaluated_value : Coercion → Place → (State → Went Datum) → State → Went (List Datum)
evaluated_value k place value s = then_do (value s) (λ d s1. then_do (result_of place (coerced k d) s1) (λ x s2. Well (x ∷ []) s2))

one_yields : (k : Coercion) (place : Place) (value : State → Went Datum) (s : State) → Yields (IsOne k) (evaluated_value k place value s)
one_yields k place value s =
    yields_then (IsOne k) (value s) _ (λ d s1. yields_behind (λ x. coerced k d ≡ Ok x) (IsOne k) (result_of place (coerced k d) s1) _
    (yields_result (λ x. coerced k d ≡ Ok x) place (coerced k d) s1 (λ x e. e))
    (λ x s2 e. record { from = d; is = e }))

before_given : (c : List ℕ → Coercion) (k : Coercion) (n : List ℕ) (names : List (List ℕ)) (first ds : List Datum) → c n ≡ k → IsOne k first → Given c names ds → Given c (n ∷ names) (first ++ ds)
before_given c k n names [] ds e h g = absurd h
before_given c k n names (x ∷ []) ds e h g = given_more c n x names ds (subst (λ j. CoercedTo j x) (sym e) h) g
before_given c k n names (x ∷ y ∷ rest) ds e h g = absurd h

evaluated_given : (c : List ℕ → Coercion) (k : Coercion) (n : List ℕ) (place : Place) (value : State → Went Datum) (names : List (List ℕ)) (others : State → Went (List Datum))
    → c n ≡ k → ((s : State) → Yields (Given c names) (others s))
    → (s : State) → Yields (Given c (n ∷ names)) (and_others (evaluated_value k place value) others s)
evaluated_given c k n place value names others e h s =
    yields_behind (IsOne k) (Given c (n ∷ names)) (evaluated_value k place value s) _ (one_yields k place value s)
    (λ first s1 one. yields_behind (Given c names) (Given c (n ∷ names)) (others s1) _ (h s1) (λ ds s2 g. before_given c k n names first ds e one g))

-- what an attribute adds to the others
pub attribute_given : (c : List ℕ → Coercion) (k : Coercion) (n : List ℕ) (place : Place) (value : State → Went Datum) (names : List (List ℕ)) (others : State → Went (List Datum))
    → c n ≡ k → ((s : State) → Yields (Given c names) (others s))
    → (s : State) → Yields (Given c (name_of_evaluated k n ++ names)) (and_others (attribute_value k place value) others s)
attribute_given c unevaluated n place value names others e h s = yields_behind (Given c names) (Given c names) (others s) _ (h s) (λ ds s1 g. g)
attribute_given c as_it_is n place value names others e h s = evaluated_given c as_it_is n place value names others e h s
attribute_given c to_text n place value names others e h s = evaluated_given c to_text n place value names others e h s
attribute_given c to_text_or_null n place value names others e h s = evaluated_given c to_text_or_null n place value names others e h s
attribute_given c to_number n place value names others e h s = evaluated_given c to_number n place value names others e h s
attribute_given c to_number_or_null n place value names others e h s = evaluated_given c to_number_or_null n place value names others e h s
attribute_given c to_truth n place value names others e h s = evaluated_given c to_truth n place value names others e h s
attribute_given c to_truth_or_null n place value names others e h s = evaluated_given c to_truth_or_null n place value names others e h s

-- one attribute before the others, said from the left and from the right
evaluated_same : {B : Type 0} (k : Coercion) (place : Place) (w : Went Datum) (go : Datum → State → Went B) (all : List Datum → State → Went B) → ((x : Datum) (s : State) → go x s ≡ all (x ∷ []) s)
    → then_do (then_do w (λ d s1. result_of place (coerced k d) s1)) go ≡ then_do (then_do w (λ d s1. then_do (result_of place (coerced k d) s1) (λ x s2. Well (x ∷ []) s2))) all
evaluated_same k place w go all e =
    then_then w (λ d s1. result_of place (coerced k d) s1) go
    ∙ then_same w _ _ (λ d s1. then_same (result_of place (coerced k d) s1) go (λ x s2. all (x ∷ []) s2) e ∙ sym (then_then (result_of place (coerced k d) s1) (λ x s2. Well (x ∷ []) s2) all))
    ∙ sym (then_then w (λ d s1. then_do (result_of place (coerced k d) s1) (λ x s2. Well (x ∷ []) s2)) all)

module _ (served : Served) (stored : List ℕ → Stored) (deep : ℕ → Deeper) (Calls : ℕ → Type 0) (here : Here) (seat : Seat) (same : SeatOf here seat) where
  abbrev serving : Serving
  serving = serving_by served stored

  part_goes : (place : Place) (p : Part) → Goes serving seat deep Calls (part_form place p) [] (λ t. text t ∷ []) (λ dp s. part_text served here place p s)
  part_goes place (words w) = text_of_datum (constant_goes served stored deep Calls here seat same place (text w))
    where
      text_of_datum : Goes serving seat deep Calls (part_form place (words w)) [] (λ d. d ∷ []) (λ dp s. Well (text w) s)
          → Goes serving seat deep Calls (part_form place (words w)) [] (λ t. text t ∷ []) (λ dp s. Well w s)
      text_of_datum h = record { by = λ sh o fits calls. record { by = λ pc s has. record { by = ((h.by sh o fits calls).by pc s has).by } } }
  part_goes place (expression e) =
      both_goes (tree_form place e) (coerces coercion.Text place) (tree_goes served stored deep Calls here seat same place e)
      (λ x. answered_goes place text (text_of x) (does_one (op.Coerce coercion.Text) place (x ∷ []) (λ s. result_of place (coerced to_text x) s) refl (λ s. refl)))

  texts_go : (place : Place) (parts : List Part) → Goes serving seat deep Calls (texts_form place parts) [] (λ ts. onto (texts ts) []) (λ dp s. part_texts served here place parts s)
  texts_go place [] = nothing_goes {st = λ ts. onto (texts ts) []} []
  texts_go place (p ∷ rest) =
      both_goes (part_form place p) (above 1 (texts_form place rest)) (part_goes place p)
      (λ t. maps_goes {st2 = λ ts. onto (texts ts) []} (λ ts. t ∷ ts) (λ ts. onto_append (texts ts) [] (text t ∷ [])) (on_top served stored deep Calls here seat same (text t) (texts_go place rest)))

  joined_goes : (place : Place) (parts : List Part)
      → Does1 served stored deep Calls here seat same (both (texts_form place parts) (does (op.Concat (length parts)) place)) []
      (λ s. then_do (joined_parts served here place parts [] s) (λ t s1. then_do (result_of place (made t) s1) (λ m s2. Well (text m) s2)))
  joined_goes place parts =
      let made_text : List ℕ → State → Went Datum = λ t s1. then_do (result_of place (made t) s1) (λ m s2. Well (text m) s2) in
      goes_as
      (λ dp s. then_same (part_texts served here place parts s) _ _ (λ ts s1. ap (λ t. made_text t s1) (joined_texts ts))
      ∙ sym (then_then (part_texts served here place parts s) (λ ts s1. Well (flat_text ts) s1) made_text)
      ∙ sym (ap (λ w. then_do w made_text) (joined_same served here place parts [] s)))
      (both_so (λ ts. length ts ≡ length parts) (texts_form place parts) (does (op.Concat (length parts)) place) (λ dp s. texts_counted served here place parts s) (texts_go place parts)
      (λ ts e. does_one (op.Concat (length parts)) place (texts ts) (λ s. made_text (joined (texts ts)) s) (texts_length ts (length parts) e) (λ s. refl)))

  pub parts_goes : (place : Place) (parts : List Part) → Does1 served stored deep Calls here seat same (parts_form place parts) [] (λ s. parts_value served here place parts s)
  parts_goes place [] = joined_goes place []
  parts_goes place (words w ∷ rest) = joined_goes place (words w ∷ rest)
  parts_goes place (expression e ∷ []) = tree_goes served stored deep Calls here seat same place e
  parts_goes place (expression e ∷ p ∷ rest) = joined_goes place (expression e ∷ p ∷ rest)

  -- the text that a part writes, trimmed where that is asked
  pub given_goes : {f : Form 0 0} {m : Deeper → State → Did} (place : Place) (trim : Bool) → Runs0 serving seat deep Calls f [] m
      → Runs1 serving seat deep Calls (kept_form place trim f) [] (λ dp s. given_value trim place (m dp) s)
  given_goes {f = f} {m = m} place true h =
      both_so Small (kept f place) (does (op.Call function.Trim) place) (λ dp s. keeping_small place (m dp) s) (kept_goes place h)
      (λ t small. does_one (op.Call function.Trim) place (text t ∷ []) (λ s. Well (text (trimmed t)) s) refl (λ s. ap (λ r. leaving_one (result_of place r s)) (trim_is t small)))
  given_goes {f = f} place false h = maps_goes (λ t. text t) (λ t. refl) (kept_goes place h)

  coerces_goes : (place : Place) (c : code.Coercion) (k : Coercion) (d : Datum) → coercion_of c ≡ k
      → Does1 served stored deep Calls here seat same (coerces c place) (d ∷ []) (λ s. result_of place (coerced k d) s)
  coerces_goes place c k d e = does_one (op.Coerce c) place (d ∷ []) (λ s. result_of place (coerced k d) s) refl (λ s. ap (λ j. leaving_one (result_of place (coerced j d) s)) e)

  abbrev Others : {n : ℕ} → Form 0 n → (Deeper → State → Went (List Datum)) → Type 0
  Others f m = Goes serving seat deep Calls f [] (λ ds. onto ds []) m

  evaluated_goes : {n : ℕ} {value : Form 0 1} {rest : Form 0 n} {mv : Deeper → State → Went Datum} {mr : Deeper → State → Went (List Datum)} (place : Place) (c : code.Coercion) (k : Coercion)
      → coercion_of c ≡ k → Runs1 serving seat deep Calls value [] mv → Others rest mr
      → Others (both (both value (coerces c place)) (above 1 rest)) (λ dp s. and_others (evaluated_value k place (mv dp)) (mr dp) s)
  evaluated_goes {value = value} {rest = rest} {mv = mv} {mr = mr} place c k e hv hr =
      goes_as (λ dp s. evaluated_same k place (mv dp s) (λ x s1. then_do (mr dp s1) (λ es s2. Well (x ∷ es) s2)) (λ ds s1. then_do (mr dp s1) (λ es s2. Well (ds ++ es) s2)) (λ x s1. refl))
      (both_goes (both value (coerces c place)) (above 1 rest) (both_goes value (coerces c place) hv (λ d. coerces_goes place c k d e))
      (λ x. maps_goes {st2 = λ ds. onto ds []} (λ es. x ∷ es) (λ es. onto_append es [] (x ∷ [])) (on_top served stored deep Calls here seat same x hr)))

  -- an attribute before the others
  pub with_value_goes : {value : Form 0 1} {mv : Deeper → State → Went Datum} {mr : Deeper → State → Went (List Datum)} (k : Coercion) (n : List ℕ) (names : List (List ℕ))
      (place : Place) {rest : Form 0 (length names)}
      → Runs1 serving seat deep Calls value [] mv → Others rest mr
      → Others (with_value k n names place value rest) (λ dp s. and_others (attribute_value k place (mv dp)) (mr dp) s)
  with_value_goes {mr = mr} unevaluated n names place hv hr = goes_as (λ dp s. sym (then_result (mr dp s))) hr
  with_value_goes {value = value} {mv = mv} {mr = mr} as_it_is n names place {rest = rest} hv hr =
      goes_as (λ dp s. sym (then_then (mv dp s) (λ d s1. Well (d ∷ []) s1) (λ ds s1. then_do (mr dp s1) (λ es s2. Well (ds ++ es) s2))))
      (both_goes value (above 1 rest) hv (λ x. maps_goes {st2 = λ ds. onto ds []} (λ es. x ∷ es) (λ es. onto_append es [] (x ∷ [])) (on_top served stored deep Calls here seat same x hr)))
  with_value_goes to_text n names place hv hr = evaluated_goes place coercion.Text to_text refl hv hr
  with_value_goes to_text_or_null n names place hv hr = evaluated_goes place coercion.TextOrNull to_text_or_null refl hv hr
  with_value_goes to_number n names place hv hr = evaluated_goes place coercion.Number to_number refl hv hr
  with_value_goes to_number_or_null n names place hv hr = evaluated_goes place coercion.NumberOrNull to_number_or_null refl hv hr
  with_value_goes to_truth n names place hv hr = evaluated_goes place coercion.Truth to_truth refl hv hr
  with_value_goes to_truth_or_null n names place hv hr = evaluated_goes place coercion.TruthOrNull to_truth_or_null refl hv hr
