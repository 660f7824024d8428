-- The rounds of a loop, of which only the next is made.
use Rattle.std.proofs.Common.{◌≡◌, ℕ, zero, suc, ◌+◌, ◌-◌, ◌/◌, ◌==◌, ◌^◌, ◌<◌, ◌≤◌, true, false, nat_lt, nat_le, List, [], ◌∷◌, length, map, option_map, Option, Some, None, Result, Ok, Err, IfOk, refl, sym, ap, ◌∙◌, subst, ⊎_elim, arith}
use Rattle.std.specs.Prelude.{codes, if◌then◌else◌, min, slice_get, ℤ, IsErrAnd}
use Rattle.std.proofs.Math.Nat.{add-div_left, div-eq_of_lt, min-eq_left}
use Rattle.std.proofs.lemmas.Bool.{cases_lt}
use Rattle.std.proofs.lemmas.Bool.Decides.{nat_tests}
use Rattle.std.proofs.lemmas.Option.{slice_get-map}
use Rattle.std.specs.declared.alloc.AllocError.{AllocError}
use Rattle.jstl_functions.specs.Functions.{and_then}
use Rattle.jstl_functions.specs.Texts.{tokens}
use Rattle.page_code.specs.declared.operands.Over.{Over}
use Rattle.page_code.specs.declared.operands.Over.TheVariants as over
use Rattle.run_values.specs.Rounds.{behind_round, entry_item, items_answer}
use Rattle.page_meaning.specs.Attributes.{Values, value_at}
use Rattle.page_meaning.specs.Rounds.{Round, entry_items, given_items, good_begin, good_step, item_at, number_in, rounds_by, rounds_below, rounds_from, rounds_of, token_items}
use Rattle.page_table.specs.LoopMoves.{loop_rounds}
use Rattle.pg_text.specs.Failure.{AnswersAs}
use Rattle.pg_text.specs.declared.failure.Failure.{Failure}
use Rattle.pg_text.specs.declared.failure.Failure.TheVariants as failure
use Rattle.pg_value.proofs.Inverses.{item_list-items_of}
use Rattle.pg_value.specs.Datum.{Datum, null, text, entries_of}
use Rattle.pg_value.specs.Value.{datum_of, entry_of}
use Rattle.pg_value.specs.declared.fault.RunFault.{RunFault}
use Rattle.pg_value.specs.declared.value.Value.{Value}
use Rattle.pg_value.specs.declared.value.Value.TheVariants as variant

lt_no : (a b : ℕ) → b ≤ a → nat_lt a b ≡ false
lt_no a b h = grind (arith, nat_tests)

lt_yes : (a b : ℕ) → a < b → nat_lt a b ≡ true
lt_yes a b h = grind (arith, nat_tests)

le_no : (a b : ℕ) → b < a → nat_le a b ≡ false
le_no a b h = grind (arith, nat_tests)

le_yes : (a b : ℕ) → a ≤ b → nat_le a b ≡ true
le_yes a b h = grind (arith, nat_tests)

no_zero : (n : ℕ) → (suc n == 0) ≡ false
no_zero n = grind (arith, nat_tests)

below_none : (at step stop : ℕ) → stop ≤ at → rounds_below at step stop ≡ 0
below_none at step stop h = ap (λ b. if b then (stop - at - 1) / step + 1 else 0) (lt_no at stop h)

below_some : (at step stop : ℕ) → at < stop → rounds_below at step stop ≡ suc ((stop - at - 1) / step)
below_some at step stop h = ap (λ b. if b then (stop - at - 1) / step + 1 else 0) (lt_yes at stop h) ∙ omega arith

-- how many places are left behind the next
left_behind : (at step stop : ℕ) → 0 < step → at < stop → rounds_below (at + step) step stop ≡ (stop - at - 1) / step
left_behind at step stop pos h = ⊎_elim
    (λ lt.
    let e : stop - at - 1 ≡ step + (stop - (at + step) - 1) = omega (arith, lt, pos) in
    below_some (at + step) step stop lt ∙ sym (ap (λ x. x / step) e ∙ add-div_left (stop - (at + step) - 1) pos ∙ omega arith))
    (λ ge. below_none (at + step) step stop ge ∙ sym (div-eq_of_lt (omega (arith, ge, h, pos))))
    (cases_lt (at + step) stop)

module _ (f : ℕ → Result Datum RunFault) (step count at stop : ℕ) where
  abbrev first : Round
  first = record { item = f at; index = at; count = count; is_last = (stop - at - 1) / step == 0 }

  pub view_none : stop ≤ at → rounds_from f step count (rounds_below at step stop) at ≡ []
  view_none h = ap (λ n. rounds_from f step count n at) (below_none at step stop h)

  pub view_some : at < stop → rounds_from f step count (rounds_below at step stop) at ≡ first ∷ rounds_from f step (count + 1) ((stop - at - 1) / step) (at + step)
  view_some h = ap (λ n. rounds_from f step count n at) (below_some at step stop h)

  last_is : 0 < step → at < stop → ((stop - at - 1) / step == 0) ≡ nat_le (stop - at) step
  last_is pos h = ⊎_elim
      (λ lt. ap (λ q. q == 0) (div-eq_of_lt lt) ∙ sym (le_yes (stop - at) step (omega (arith, lt, h))))
      (λ ge.
      let e : stop - at - 1 ≡ step + (stop - at - 1 - step) = omega (arith, ge) in
      let q : (stop - at - 1) / step ≡ suc ((stop - at - 1 - step) / step) = ap (λ x. x / step) e ∙ add-div_left (stop - at - 1 - step) pos ∙ omega arith in
      ap (λ x. x == 0) q ∙ no_zero ((stop - at - 1 - step) / step) ∙ sym (le_no (stop - at) step (omega (arith, ge, h))))
      (cases_lt (stop - at - 1) step)

  -- the next round, by its numbers
  pub next_is : 0 < step → at < stop → (r : Round) × (rest : List Round) × (rounds_from f step count (rounds_below at step stop) at ≡ r ∷ rest) × (r.index ≡ at) × (r.count ≡ count) × (r.is_last ≡ nat_le (stop - at) step)
  next_is pos h = (first, rounds_from f step (count + 1) ((stop - at - 1) / step) (at + step), view_some h, refl, refl, last_is pos h)

  -- the rounds behind it, where sums stand still at the end of their type
  pub behind_is : (at2 count2 : ℕ) → 0 < step → at < stop → stop < 2 ^ 64 → count ≤ at + 1 → at2 ≡ min (at + step) (2 ^ 64 - 1) → count2 ≡ min (count + 1) (2 ^ 64 - 1)
      → rounds_from f step count2 (rounds_below at2 step stop) at2 ≡ behind_round (rounds_from f step count (rounds_below at step stop) at)
  behind_is at2 count2 pos h small few e g = ⊎_elim
      (λ lt.
      let a : at2 ≡ at + step = e ∙ min-eq_left (omega (arith, lt, small)) in
      let c : count2 ≡ count + 1 = g ∙ min-eq_left (omega (arith, lt, small, few, pos)) in
      ap (λ x. rounds_from f step count2 (rounds_below x step stop) x) a ∙ ap (λ x. rounds_from f step x (rounds_below (at + step) step stop) (at + step)) c
      ∙ ap (λ x. rounds_from f step (count + 1) x (at + step)) (left_behind at step stop pos h) ∙ sym (ap behind_round (view_some h)))
      (λ ge.
      let past : stop ≤ at2 = grind (arith, e, ge, small) in
      let none : (stop - at - 1) / step ≡ 0 = div-eq_of_lt (omega (arith, ge, h, pos)) in
      ap (λ x. rounds_from f step count2 x at2) (below_none at2 step stop past) ∙ sym (ap behind_round (view_some h) ∙ ap (λ x. rounds_from f step (count + 1) x (at + step)) none))
      (cases_lt (at + step) stop)

-- the item of the next round
abbrev item_in : List Round → Result Datum RunFault
item_in [] = Ok null
item_in (r ∷ rest) = r.item

pub item_is_next : (f : ℕ → Result Datum RunFault) (step count at stop : ℕ) (r : Round) (rest : List Round) → at < stop → rounds_from f step count (rounds_below at step stop) at ≡ r ∷ rest → f at ≡ r.item
item_is_next f step count at stop r rest h e = ap item_in (sym (view_some f step count at stop h) ∙ e)

-- items
abbrev found : Option (Result Datum RunFault) → Result Datum RunFault
found (Some item) = item
found None = Ok null

item_is : (items : List (Result Datum RunFault)) (place : ℕ) (x : Result Datum RunFault) → slice_get items place ≡ Some x → item_at (Some items) place ≡ x
item_is items place x e = ap found e

item_none : (items : List (Result Datum RunFault)) (place : ℕ) → slice_get items place ≡ None → item_at (Some items) place ≡ Ok null
item_none items place e = ap found e

pub value_copied : (vs : List Value) (place : ℕ) (v : Value) (r : Result Value AllocError) → Some v ≡ slice_get vs place → IfOk r (λ copy. copy ≡ v)
    → IfOk r (λ copy. item_at (Some (map Ok (map datum_of vs))) place ≡ Ok (datum_of copy))
value_copied vs place v (Err e) h g = tt
value_copied vs place v (Ok copy) h g =
    item_is (map Ok (map datum_of vs)) place (Ok (datum_of v)) (slice_get-map Ok (map datum_of vs) place ∙ ap (option_map Ok) (slice_get-map datum_of vs place ∙ ap (option_map datum_of) (sym h)))
    ∙ ap (λ x. Ok (datum_of x)) (sym g)

pub value_absent : (vs : List Value) (place : ℕ) → None ≡ slice_get vs place → item_at (Some (map Ok (map datum_of vs))) place ≡ Ok null
value_absent vs place h =
    item_none (map Ok (map datum_of vs)) place (slice_get-map Ok (map datum_of vs) place ∙ ap (option_map Ok) (slice_get-map datum_of vs place ∙ ap (option_map datum_of) (sym h)))

-- the items of texts and of entries
texts_get : (ts : List (List ℕ)) (place : ℕ) → slice_get (token_items ts) place ≡ option_map (λ t. Ok (text t)) (slice_get ts place)
texts_get [] place = refl
texts_get (t ∷ rest) zero = refl
texts_get (t ∷ rest) (suc n) = texts_get rest n

pub text_copied : (ts : List (List ℕ)) (place : ℕ) (t : List ℕ) (r : Result Value AllocError) → Some t ≡ slice_get ts place → IfOk r (λ made. datum_of made ≡ text t)
    → IfOk r (λ made. item_at (Some (token_items ts)) place ≡ Ok (datum_of made))
text_copied ts place t (Err e) h g = tt
text_copied ts place t (Ok made) h g = item_is (token_items ts) place (Ok (text t)) (texts_get ts place ∙ ap (option_map (λ x. Ok (text x))) (sym h)) ∙ ap Ok (sym g)

pub text_absent : (ts : List (List ℕ)) (place : ℕ) → None ≡ slice_get ts place → item_at (Some (token_items ts)) place ≡ Ok null
text_absent ts place h = item_none (token_items ts) place (texts_get ts place ∙ ap (option_map (λ x. Ok (text x))) (sym h))

entries_get : (es : List (List ℕ × Datum)) (place : ℕ) → slice_get (entry_items (entries_of es)) place ≡ option_map entry_item (slice_get es place)
entries_get [] place = refl
entries_get (e ∷ rest) zero = refl
entries_get (e ∷ rest) (suc n) = entries_get rest n

pub entry_copied : (es : Values) (place : ℕ) (e : List ℕ × Datum) (r : Result Value (Failure RunFault)) → Some e ≡ slice_get es place → AnswersAs datum_of (entry_item e) r
    → AnswersAs datum_of (item_at (Some (entry_items (entries_of es))) place) r
entry_copied es place e r h g =
    let i = item_is (entry_items (entries_of es)) place (entry_item e) (entries_get es place ∙ ap (option_map entry_item) (sym h)) in
    subst (λ x. AnswersAs datum_of x r) (sym i) g

pub entry_absent : (es : Values) (place : ℕ) → None ≡ slice_get es place → item_at (Some (entry_items (entries_of es))) place ≡ Ok null
entry_absent es place h = item_none (entry_items (entries_of es)) place (entries_get es place ∙ ap (option_map entry_item) (sym h))

pub entries_counted : (es : List (List ℕ × Datum)) → length (entry_items (entries_of es)) ≡ length es
entries_counted [] = refl
entries_counted (e ∷ rest) = ap suc (entries_counted rest)

pub texts_counted : (ts : List (List ℕ)) → length (token_items ts) ≡ length ts
texts_counted [] = refl
texts_counted (t ∷ rest) = ap suc (texts_counted rest)

-- what a loop goes over: the items of a list, and the tokens of a text
pub list_items : (v : Value) (items copy : List Datum) → v ≡ variant.List items → copy ≡ items → given_items (Some (datum_of v)) ≡ Ok (Some (map Ok copy))
list_items v items copy is same = ap (λ x. given_items (Some (datum_of x))) is ∙ ap (λ ds. Ok (Some (map Ok ds))) (item_list-items_of items ∙ sym same)

abbrev token_item : List ℕ → Result Datum RunFault
token_item t = Ok (text t)

tokens_are_items : (ts : List (List ℕ)) → map token_item ts ≡ token_items ts
tokens_are_items [] = refl
tokens_are_items (t ∷ rest) = ap (λ items. token_item t ∷ items) (tokens_are_items rest)

pub text_items : (v : Value) (t : List ℕ) (found : List (List ℕ)) → v ≡ variant.Text t → found ≡ tokens (codes ",") t → given_items (Some (datum_of v)) ≡ Ok (Some (token_items found))
text_items v t found is cut = ap (λ x. given_items (Some (datum_of x))) is ∙ ap (λ items. Ok (Some items)) (ap (map token_item) (sym cut) ∙ tokens_are_items found)

-- the rounds of a loop by what they go over
pub loop_rounds_is : (o : Over) (vs : Values) → loop_rounds o vs ≡ and_then (items_answer o vs) (λ items. rounds_of items vs)
loop_rounds_is over.Numbers vs = refl
loop_rounds_is over.Items vs = refl
loop_rounds_is over.Tokens vs = refl

pub rounds_failed : {A B : Type 0} (seen : A → B) (r : Result B RunFault) (go : B → Result (List Round) RunFault) (e : Failure RunFault) (result : Result (List Round) (Failure RunFault)) → IsErrAnd result (λ f. f ≡ e)
    → AnswersAs seen r (Err e) → AnswersAs (λ (x : List Round). x) (and_then r go) result
rounds_failed seen r go e (Ok x) is answers = absurd is
rounds_failed seen r go (failure.Fault f) (Err g) is answers = subst (λ g. AnswersAs (λ (x : List Round). x) (and_then r go) (Err g)) (sym is) (ap (λ r. and_then r go) answers)
rounds_failed seen r go failure.NoMemory (Err g) is answers = subst (λ g. AnswersAs (λ (x : List Round). x) (and_then r go) (Err g)) (sym is) tt

pub rounds_gave : (o : Over) (vs : Values) (items : Option (List (Result Datum RunFault))) (begin end step : Option ℤ) (r : Result (List Round) RunFault) → items_answer o vs ≡ Ok items
    → begin ≡ number_in (value_at (codes "begin") vs) → end ≡ number_in (value_at (codes "end") vs) → step ≡ number_in (value_at (codes "step") vs)
    → r ≡ rounds_by items end (good_begin begin) (good_step step) → loop_rounds o vs ≡ r
rounds_gave o vs items begin end step r e b n t is =
    loop_rounds_is o vs ∙ ap (λ x. and_then x (λ items. rounds_of items vs)) e
    ∙ sym (is ∙ ap (λ x. rounds_by items x (good_begin begin) (good_step step)) n ∙ ap (λ x. rounds_by items (number_in (value_at (codes "end") vs)) (good_begin x) (good_step step)) b
    ∙ ap (λ x. rounds_by items (number_in (value_at (codes "end") vs)) (good_begin (number_in (value_at (codes "begin") vs))) (good_step x)) t)

pub fault_as : {A B : Type 0} (seen : A → B) (expected : Result B RunFault) (f : RunFault) (result : Result A (Failure RunFault)) → IsErrAnd result (λ e. e ≡ failure.Fault f) → expected ≡ Err f → AnswersAs seen expected result
fault_as seen expected f (Ok x) is e = absurd is
fault_as seen expected f (Err g) is e = subst (λ g. AnswersAs seen expected (Err g)) (sym is) e
