-- The value that is read is the value that the grammar has, and so are an attribute's, both ways.
use Rattle.std.proofs.Common.{◌≡◌, inl, inr, ◌∙◌, ℕ, Bool, true, false, cond, List, [], ◌∷◌, ◌++◌, length, drop, codes, refl, ap, sym, subst, Option, Some, None, Result, Ok, Err}
use Rattle.std.specs.Option.{is_some}
use Rattle.pg_text.specs.declared.translation_fault.TranslationFault.{TranslationFault}
use Rattle.page_pieces.specs.declared.attribute.Part.{Part}
use Rattle.page_pieces.specs.declared.attribute.Attribute.{Attribute}
use Rattle.page_pieces.specs.declared.setting.Setting.{Setting}
use Rattle.page_pieces.specs.declared.spot.Spot.{Spot}
use Rattle.page_pieces.specs.declared.piece.Break.{Break}
use Rattle.page_pieces.specs.Spots.{spot_after, place_in}
use Rattle.page_pieces.specs.Texts.{begins, further, around}
use Rattle.page_pieces.specs.Values.{signs_of, HasScripting, IsValue, IsBadValue}
use Rattle.page_pieces.specs.Tags.{WrittenAttribute, before_value, attribute_bytes, IsAttribute, AreAttributes, HasFirstFault}
use Rattle.page_pieces.specs.ReadValue.{parts_of, unless_scripting, value_parts, attribute_with, attribute_of, attribute_first, attributes_of}
use Rattle.page_pieces.proofs.AtFront.Marks.{begins_cut}
use Rattle.page_pieces.proofs.AttributeValues.PartMeaning.{parts_read, parts_are, fault_is_unclosed}

-- a mark somewhere in a text
abbrev mark : List ℕ
mark = codes "<%="

scripting_found : (before behind : List ℕ) → is_some (around mark (before ++ (mark ++ behind))) ≡ true
scripting_found [] behind = refl
scripting_found (b ∷ before) behind = go (begins mark (b ∷ (before ++ (mark ++ behind)))) (around mark (before ++ (mark ++ behind))) (scripting_found before behind)
  where
    go : (here : Bool) (found : Option (List ℕ × List ℕ)) → is_some found ≡ true → is_some (cond here (Some ([], drop (length mark) (b ∷ (before ++ (mark ++ behind))))) (further b found)) ≡ true
    go true found is = refl
    go false None is = is
    go false (Some f) is = refl

some_scripting : (value : List ℕ) → is_some (around mark value) ≡ true → HasScripting value
some_scripting [] is = cc
some_scripting (b ∷ bytes) is = go (begins mark (b ∷ bytes)) refl (around mark bytes) (some_scripting bytes) is
  where
    go : (here : Bool) → begins mark (b ∷ bytes) ≡ here → (found : Option (List ℕ × List ℕ)) → (is_some found ≡ true → HasScripting bytes)
        → is_some (cond here (Some ([], drop (length mark) (b ∷ bytes))) (further b found)) ≡ true → HasScripting (b ∷ bytes)
    go true at found rec is = ([], drop (length mark) (b ∷ bytes), begins_cut mark (b ∷ bytes) at)
    go false at None rec is = cc
    go false at (Some f) rec is = let more = rec refl in (b ∷ more.0, more.1, ap (λ t. b ∷ t) more.2)

has_scripting : (value : List ℕ) → HasScripting value → is_some (around mark value) ≡ true
has_scripting value (before, behind, cut) = ap (λ t. is_some (around mark t)) cut ∙ scripting_found before behind

no_scripting : (value : List ℕ) → is_some (around mark value) ≡ false → ¬ (HasScripting value)
no_scripting value is has = cc (sym is ∙ has_scripting value has)

not_scripting : (value : List ℕ) → ¬ (HasScripting value) → is_some (around mark value) ≡ false
not_scripting value clean = go (is_some (around mark value)) refl
  where
    go : (holds : Bool) → is_some (around mark value) ≡ holds → is_some (around mark value) ≡ false
    go true is = absurd (clean (some_scripting value is))
    go false is = is

module _ (setting : Setting) (value : List ℕ) where
  -- what was read of the signs, and whether Java stands in the value
  abbrev read : Result (List Part) TranslationFault
  read = parts_of setting (signs_of setting.el value)

  pub value_is : (made : List Part) → value_parts setting value ≡ Ok made → IsValue setting value made
  value_is made is = go read refl (is_some (around mark value)) refl is
    where
      go : (parts : Result (List Part) TranslationFault) → read ≡ parts → (holds : Bool) → is_some (around mark value) ≡ holds → unless_scripting holds parts ≡ Ok made → IsValue setting value made
      go (Err fault) at holds has e = cc
      go (Ok found) at true has e = cc
      go (Ok found) at false has e =
          let same : ◌≡◌ {A = Result (List Part) TranslationFault} (Ok found) (Ok made) = e in
          record { are = parts_are setting 0 (signs_of setting.el value) made (at ∙ same); clean = no_scripting value has }

  pub value_read : (made : List Part) → IsValue setting value made → value_parts setting value ≡ Ok made
  value_read made is = (λ i. unless_scripting (not_scripting value is.clean i) (parts_read setting (signs_of setting.el value) made is.are i))

  pub value_fault : (fault : TranslationFault) → value_parts setting value ≡ Err fault → IsBadValue setting value fault
  value_fault fault is = go read refl (is_some (around mark value)) refl is
    where
      go : (parts : Result (List Part) TranslationFault) → read ≡ parts → (holds : Bool) → is_some (around mark value) ≡ holds → unless_scripting holds parts ≡ Err fault → IsBadValue setting value fault
      go (Err other) at holds has e =
          let same : ◌≡◌ {A = Result (List Part) TranslationFault} (Err other) (Err fault) = cc in
          inl ((λ made are. cc (sym at ∙ parts_read setting (signs_of setting.el value) made are)), fault_is_unclosed setting 0 (signs_of setting.el value) fault (at ∙ same))
      go (Ok found) at true has e = inr (found, parts_are setting 0 (signs_of setting.el value) found at, some_scripting value has, cc)
      go (Ok found) at false has e = cc

  pub fault_read : (fault : TranslationFault) → IsBadValue setting value fault → value_parts setting value ≡ Err fault
  fault_read fault (inl (none, is)) = go read refl
    where
      go : (parts : Result (List Part) TranslationFault) → read ≡ parts → value_parts setting value ≡ Err fault
      go (Ok found) at = absurd (none found (parts_are setting 0 (signs_of setting.el value) found at))
      go (Err other) at =
          let unclosed = fault_is_unclosed setting 0 (signs_of setting.el value) other at in
          ap (unless_scripting (is_some (around mark value))) at ∙ ap (λ f. Err f) (unclosed ∙ sym is)
  fault_read fault (inr (made, are, has, is)) =
      (λ i. unless_scripting (has_scripting value has i) (parts_read setting (signs_of setting.el value) made are i)) ∙ ap (λ f. Err f) (sym is)

module _ (setting : Setting) (file : List ℕ) where
  attribute_is : (spot : Spot) (a : WrittenAttribute) (x : Attribute) → attribute_of setting file spot a ≡ Ok x → IsAttribute setting file spot a x
  attribute_is spot a x is = go (value_parts setting a.value) refl is
    where
      go : (parts : Result (List Part) TranslationFault) → value_parts setting a.value ≡ parts → attribute_with file a.name (spot_after spot (before_value a)) parts ≡ Ok x → IsAttribute setting file spot a x
      go (Err fault) at e = cc
      go (Ok made) at e =
          let same : record { name = a.name; parts = made; place = place_in file (spot_after spot (before_value a)) } ≡ x = cc in
          record { name = ap (λ y. y.name) (sym same); parts = value_is setting a.value x.parts (at ∙ ap (λ y. Ok y.parts) same); place = ap (λ y. y.place) (sym same) }

  attribute_read : (spot : Spot) (a : WrittenAttribute) (x : Attribute) → IsAttribute setting file spot a x → attribute_of setting file spot a ≡ Ok x
  attribute_read spot a x is =
      ap (attribute_with file a.name (spot_after spot (before_value a))) (value_read setting a.value x.parts is.parts)
      ∙ (λ i. Ok (record { name = sym is.name i; parts = x.parts; place = sym is.place i }))

  pub attributes_are : (spot : Spot) (attributes : List WrittenAttribute) (made : List Attribute) → attributes_of setting file spot attributes ≡ Ok made → AreAttributes setting file spot attributes made
  attributes_are spot [] [] is = tt
  attributes_are spot [] (x ∷ made) is = cc
  attributes_are spot (a ∷ attributes) made is =
      go (attribute_of setting file spot a) refl (attributes_of setting file (spot_after spot (attribute_bytes a)) attributes) (attributes_are (spot_after spot (attribute_bytes a)) attributes) is
    where
      go : (first : Result Attribute Break) → attribute_of setting file spot a ≡ first → (more : Result (List Attribute) Break)
          → ((found : List Attribute) → more ≡ Ok found → AreAttributes setting file (spot_after spot (attribute_bytes a)) attributes found)
          → attribute_first first more ≡ Ok made → AreAttributes setting file spot (a ∷ attributes) made
      go (Err fault) at more rec e = cc
      go (Ok x) at (Err fault) rec e = cc
      go (Ok x) at (Ok found) rec e =
          let same : x ∷ found ≡ made = cc in
          subst (AreAttributes setting file spot (a ∷ attributes)) same (attribute_is spot a x at, rec found refl)

  pub attributes_of_read : (spot : Spot) (attributes : List WrittenAttribute) (made : List Attribute) → AreAttributes setting file spot attributes made → attributes_of setting file spot attributes ≡ Ok made
  attributes_of_read spot [] [] are = refl
  attributes_of_read spot [] (x ∷ made) are = absurd are
  attributes_of_read spot (a ∷ attributes) [] are = absurd are
  attributes_of_read spot (a ∷ attributes) (x ∷ made) are =
      (λ i. attribute_first (attribute_read spot a x are.0 i) (attributes_of_read (spot_after spot (attribute_bytes a)) attributes made are.1 i))

  pub first_fault : (spot : Spot) (attributes : List WrittenAttribute) (fault : Break) → attributes_of setting file spot attributes ≡ Err fault → HasFirstFault setting file spot attributes fault
  first_fault spot [] fault is = cc
  first_fault spot (a ∷ attributes) fault is =
      go (value_parts setting a.value) refl (attributes_of setting file (spot_after spot (attribute_bytes a)) attributes) (first_fault (spot_after spot (attribute_bytes a)) attributes fault) is
    where
      go : (parts : Result (List Part) TranslationFault) → value_parts setting a.value ≡ parts → (more : Result (List Attribute) Break)
          → (more ≡ Err fault → HasFirstFault setting file (spot_after spot (attribute_bytes a)) attributes fault)
          → attribute_first (attribute_with file a.name (spot_after spot (before_value a)) parts) more ≡ Err fault → HasFirstFault setting file spot (a ∷ attributes) fault
      go (Err kind) at more rec e = inl (kind, value_fault setting a.value kind at, cc)
      go (Ok made) at (Err other) rec e = inr (made, value_is setting a.value made at, rec (cc))
      go (Ok made) at (Ok found) rec e = cc

  pub first_fault_read : (spot : Spot) (attributes : List WrittenAttribute) (fault : Break) → HasFirstFault setting file spot attributes fault → attributes_of setting file spot attributes ≡ Err fault
  first_fault_read spot [] fault has = absurd has
  first_fault_read spot (a ∷ attributes) fault (inl (kind, bad, is)) =
      ap (λ r. attribute_first (attribute_with file a.name (spot_after spot (before_value a)) r) (attributes_of setting file (spot_after spot (attribute_bytes a)) attributes)) (fault_read setting a.value kind bad)
      ∙ ap (λ f. Err f) (sym is)
  first_fault_read spot (a ∷ attributes) fault (inr (made, value, has)) =
      (λ i. attribute_first (attribute_with file a.name (spot_after spot (before_value a)) (value_read setting a.value made value i)) (first_fault_read (spot_after spot (attribute_bytes a)) attributes fault has i))
