use Rattle.std.proofs.Common.{◌≡◌, ◌∙◌, ◌<◌, true, sym, ap, List, ℕ, ◌∷◌, length, drop, get_or, Option, ◌+◌, arith}
use Rattle.std.specs.Prelude.{codes}
use Rattle.std.proofs.lemmas.List.{at_drop_all}
use Rattle.pg_text.specs.Numbers.{whole_number}
use Rattle.http_in.specs.declared.fields.Field.{Field}
use Rattle.http_in.specs.Fields.{values_of}
use Rattle.http_in.specs.Length.{size_of}
use Rattle.http_in.proofs.FieldLemmas.{has_name, values-found, values-passed}
use Rattle.http_in.proofs.Sizes.{size_from, no_number, other_number, number_found, size_found}
use Rattle.http_in.proofs.lookups.body_size.Goals as goal
use Rattle.http_in.proofs.lookups.body_size.Goals.{then-is_named+in_ok-size+else-unwrap_or-size, else-is_named}

abbrev name : List ℕ
name = codes "content-length"

-- the next value comes from a field with the name
found_next : (fields : List Field) (i : ℕ) (found : Option ℕ) (field : Field) → i < length fields → field ≡ get_or fields i field → has_name name field ≡ true
    → size_from found (values_of name (drop i fields)) ≡ size_of (values_of name fields)
    → size_from found (field.value ∷ values_of name (drop (i + 1) fields)) ≡ size_of (values_of name fields)
found_next fields i found field within at named so_far = ap (size_from found) (sym (values-found name fields i field within at named)) ∙ so_far

pub returns-in_err-size : goal.returns-in_err-size
returns-in_err-size c =
    let named : has_name name c.field-item.result ≡ true = sym c.is_named.ensures ∙ c.if-is_named.true in
    let so_far = found_next c.args.fields.now c.loop-field.field-index c.loop-field.found c.field-item.result c.loop-field-test.true c.field-item.is named c.loop-field.invariant in
    c.from_residual.ensures ∙ sym (no_number c.loop-field.found _ _ (c.in_err-size.ensures.value ∙ ap whole_number c.as_slice.ensures)) ∙ so_far

pub returns-then-unwrap_or-size : goal.returns-then-unwrap_or-size
returns-then-unwrap_or-size c =
    let named : has_name name c.field-item.result ≡ true = sym c.is_named.ensures ∙ c.if-is_named.true in
    let so_far = found_next c.args.fields.now c.loop-field.field-index c.loop-field.found c.field-item.result c.loop-field-test.true c.field-item.is named c.loop-field.invariant in
    let differs = rw c.unwrap_or.ensures at c.if-unwrap_or-size.true in
    sym (other_number c.loop-field.found _ _ c.in_ok-size.size (c.in_ok-size.ensures.value ∙ ap whole_number c.as_slice.ensures) differs) ∙ so_far

pub loop-field-preserved : goal.loop-field-preserved
loop-field-preserved c =
    elim c.if-is_named.branch [
      | then-is_named+in_ok-size+else-unwrap_or-size w ↦
          let named : has_name name c.field-item.result ≡ true = sym c.is_named.ensures ∙ w.if-is_named.true in
          let so_far = found_next c.args.fields.now c.loop-field.field-index c.loop-field.found c.field-item.result c.loop-field-test.true c.field-item.is named c.loop-field.invariant in
          rw w.found-is (sym (number_found c.loop-field.found _ _ w.in_ok-size.size (w.in_ok-size.ensures.value ∙ ap whole_number w.as_slice.ensures) (sym w.unwrap_or.ensures ∙ w.if-unwrap_or-size.false)) ∙ so_far)
      | else-is_named w ↦
          let other = sym c.is_named.ensures ∙ w.if-is_named.false in
          rw w.found-is (ap (size_from c.loop-field.found) (sym (values-passed name c.args.fields.now c.loop-field.field-index c.field-item.result c.loop-field-test.true c.field-item.is other)) ∙ c.loop-field.invariant)
    ]

pub returns : goal.returns
returns c =
    let end = at_drop_all (values_of name) c.args.fields.now c.loop-field.field-index (omega arith) in
    rw c.unwrap_or-2.ensures (sym (size_found c.loop-field.found) ∙ ap (size_from c.loop-field.found) (sym end) ∙ c.loop-field.invariant)
