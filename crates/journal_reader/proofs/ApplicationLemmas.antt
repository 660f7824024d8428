-- Edits, steps on the application's attributes, and their answers, that are read by their byte.
use Rattle.std.proofs.Common.{◌≡◌, ◌≤◌, ℕ, List, [], ◌∷◌, ◌++◌, refl, arith}
use Rattle.journal_reader.specs.Values.{IsValue}
use Rattle.pg_value.specs.declared.value.Value.{Value}
use Rattle.site_journal.specs.Codes.{IsNumber, IsText, of_bytes, of_number}
use Rattle.site_journal.specs.Journal.{of_answer, of_edit, of_step, of_value}
use Rattle.site_journal.specs.Reading.{IsAnswer, IsEdit, IsPath, IsStep}
use Rattle.site_words.specs.declared.words.AppReply.{AppReply}
use Rattle.site_words.specs.declared.words.AppReply.TheVariants as answer
use Rattle.site_words.specs.declared.words.AppStep.{AppStep}
use Rattle.site_words.specs.declared.words.AppStep.TheVariants as step
use Rattle.source_tree.specs.declared.edit.Edit.{Edit}
use Rattle.source_tree.specs.declared.edit.Edit.TheVariants.{Put, Delete}

-- what stands behind the byte n of such a thing is one of these, which makes it
abbrev pub Arm : {B C : Type 0} → (B → Type 0) → (B → ℕ) → (B → List ℕ) → (C → Type 0) → (C → List ℕ) → (C → B) → ℕ → Type 0
Arm {B = B} {C = C} Q tag body P f make n = (y : B) → Q y → tag y ≡ n → (x : C) × P x × (body y ≡ f x) × (y ≡ make x)

-- two parts, one behind the other
abbrev pub AreBoth : {A B : Type 0} → (A → Type 0) → (B → Type 0) → A × B → Type 0
AreBoth P Q x = P x.0 × Q x.1

abbrev pub of_both : {A B : Type 0} → (A → List ℕ) → (B → List ℕ) → A × B → List ℕ
of_both f g x = f x.0 ++ g x.1

-- edits

abbrev pub edit_tag : Edit → ℕ
edit_tag (Put path t) = 0
edit_tag (Delete path) = 1

abbrev pub edit_body : Edit → List ℕ
edit_body (Put path t) = of_bytes path ++ of_bytes t
edit_body (Delete path) = of_bytes path

pub edit_text : (y : Edit) → of_edit y ≡ edit_tag y ∷ edit_body y
edit_text (Put path t) = refl
edit_text (Delete path) = refl

pub edit_most : (y : Edit) → edit_tag y ≤ 1
edit_most (Put path t) = omega arith
edit_most (Delete path) = omega arith

abbrev pub put : List ℕ × List ℕ → Edit
put x = Put x.0 x.1

pub put_arm : Arm IsEdit edit_tag edit_body (AreBoth IsPath IsText) (of_both of_bytes of_bytes) put 0
put_arm (Put path t) is e = ((path, t), is, refl, refl)
put_arm (Delete path) is e = absurd (omega (arith, e))

pub delete_arm : Arm IsEdit edit_tag edit_body IsPath of_bytes Delete 1
delete_arm (Put path t) is e = absurd (omega (arith, e))
delete_arm (Delete path) is e = (path, is, refl, refl)

-- steps

abbrev pub step_tag : AppStep → ℕ
step_tag (step.Get name) = 0
step_tag (step.Set name value) = 1
step_tag (step.Remove name) = 2
step_tag (step.Ensure name value) = 3
step_tag step.All = 4

abbrev pub step_body : AppStep → List ℕ
step_body (step.Get name) = of_bytes name
step_body (step.Set name value) = of_bytes name ++ of_value value
step_body (step.Remove name) = of_bytes name
step_body (step.Ensure name value) = of_bytes name ++ of_value value
step_body step.All = []

pub step_text : (y : AppStep) → of_step y ≡ step_tag y ∷ step_body y
step_text (step.Get name) = refl
step_text (step.Set name value) = refl
step_text (step.Remove name) = refl
step_text (step.Ensure name value) = refl
step_text step.All = refl

pub step_most : (y : AppStep) → step_tag y ≤ 4
step_most (step.Get name) = omega arith
step_most (step.Set name value) = omega arith
step_most (step.Remove name) = omega arith
step_most (step.Ensure name value) = omega arith
step_most step.All = omega arith

abbrev pub set : List ℕ × Value → AppStep
set x = step.Set x.0 x.1

abbrev pub ensure : List ℕ × Value → AppStep
ensure x = step.Ensure x.0 x.1

pub get_arm : Arm IsStep step_tag step_body IsText of_bytes step.Get 0
get_arm (step.Get name) is e = (name, is, refl, refl)
get_arm y is e = absurd (omega (arith, e))

pub set_arm : Arm IsStep step_tag step_body (AreBoth IsText IsValue) (of_both of_bytes of_value) set 1
set_arm (step.Set name value) is e = ((name, value), is, refl, refl)
set_arm y is e = absurd (omega (arith, e))

pub remove_arm : Arm IsStep step_tag step_body IsText of_bytes step.Remove 2
remove_arm (step.Remove name) is e = (name, is, refl, refl)
remove_arm y is e = absurd (omega (arith, e))

pub ensure_arm : Arm IsStep step_tag step_body (AreBoth IsText IsValue) (of_both of_bytes of_value) ensure 3
ensure_arm (step.Ensure name value) is e = ((name, value), is, refl, refl)
ensure_arm y is e = absurd (omega (arith, e))

pub all_only : (y : AppStep) → step_tag y ≡ 4 → y ≡ step.All
all_only step.All e = refl
all_only y e = absurd (omega (arith, e))

-- answers

abbrev pub answer_tag : AppReply → ℕ
answer_tag (answer.Value value) = 0
answer_tag answer.Done = 1
answer_tag answer.Created = 2
answer_tag (answer.Large weight) = 3

abbrev pub answer_body : AppReply → List ℕ
answer_body (answer.Value value) = of_value value
answer_body answer.Done = []
answer_body answer.Created = []
answer_body (answer.Large weight) = of_number weight

pub answer_text : (y : AppReply) → of_answer y ≡ answer_tag y ∷ answer_body y
answer_text (answer.Value value) = refl
answer_text answer.Done = refl
answer_text answer.Created = refl
answer_text (answer.Large weight) = refl

pub answer_most : (y : AppReply) → answer_tag y ≤ 3
answer_most (answer.Value value) = omega arith
answer_most answer.Done = omega arith
answer_most answer.Created = omega arith
answer_most (answer.Large weight) = omega arith

pub value_arm : Arm IsAnswer answer_tag answer_body IsValue of_value answer.Value 0
value_arm (answer.Value value) is e = (value, is, refl, refl)
value_arm y is e = absurd (omega (arith, e))

pub done_only : (y : AppReply) → answer_tag y ≡ 1 → y ≡ answer.Done
done_only answer.Done e = refl
done_only y e = absurd (omega (arith, e))

pub created_only : (y : AppReply) → answer_tag y ≡ 2 → y ≡ answer.Created
created_only answer.Created e = refl
created_only y e = absurd (omega (arith, e))

pub large_arm : Arm IsAnswer answer_tag answer_body IsNumber of_number answer.Large 3
large_arm (answer.Large weight) is e = (weight, is, refl, refl)
large_arm y is e = absurd (omega (arith, e))
