-- The faults of the parts of a value.
use Rattle.std.proofs.Common.{◌≡◌, ℕ, Bool, List, [], ◌∷◌, ◌++◌, refl, sym, ap, ◌∙◌, append_assoc}
use Rattle.page_pieces.specs.declared.attribute.Part.{Part}
use Rattle.page_pieces.specs.declared.attribute.Part.TheVariants as parts
use Rattle.pg_text.specs.declared.translation_fault.TranslationFault.TheVariants as fault
use Rattle.unit_words.specs.Values.{expression_faults, part_faults}

pub parts_joined : (library : List ℕ → Bool) (xs ys : List Part) → part_faults library (xs ++ ys) ≡ part_faults library xs ++ part_faults library ys
parts_joined library [] ys = refl
parts_joined library (parts.Text text ∷ xs) ys = parts_joined library xs ys
parts_joined library (parts.Expr text ∷ xs) ys =
    ap (λ more. expression_faults library text ++ more) (parts_joined library xs ys) ∙ sym (append_assoc (expression_faults library text) (part_faults library xs) (part_faults library ys))
parts_joined library (parts.Hash ∷ xs) ys = ap (λ more. fault.ElNotHere ∷ more) (parts_joined library xs ys)
