-- The ports of a worker of several sites.
use Rattle.std.proofs.Common.{◌≡◌, ℕ, List, [], ◌∷◌, All, Some, get_or, refl, sym, ap, subst, ◌∙◌}
use Rattle.std.proofs.lemmas.Option.{get_or_from_slice_get, slice_get-get_or, slice_get_within}
use Rattle.std.specs.List.{slice_get}
use Rattle.context_talk.specs.Among.{connections_of}
use Rattle.pages_serve.specs.Numbers.{number_of}
use Rattle.site_words.specs.declared.words.Opening.{Opening}
use Rattle.talk_words.specs.Connection.{Connection}
use Rattle.talk_words.specs.declared.role.Role.{Role}

-- the number of the first connection's pass
abbrev first_pass : {H : Type 0} → List (Connection × H) → ℕ
first_pass [] = 0
first_pass (place ∷ places) = place.0.pass

number_told : {P H : Type 0} (opening : P → Opening) (pass : P → ℕ) (home : P → H) (role : Role) (ports : List P) → number_of pass ports ≡ first_pass (connections_of opening pass home role ports)
number_told opening pass home role [] = refl
number_told opening pass home role (port ∷ ports) = refl

-- ports that are the same still have the same number
pub same_number : {P H : Type 0} (opening : P → Opening) (pass : P → ℕ) (home : P → H) (role : Role) (old new : List P) → connections_of opening pass home role new ≡ connections_of opening pass home role old → number_of pass new ≡ number_of pass old
same_number opening pass home role old new same =
    number_told opening pass home role new ∙ ap first_pass same ∙ sym (number_told opening pass home role old)

-- what holds of each item by its place holds of all
pub all_of : {X : Type 0} (P : X → Type 0) (xs : List X) → ((place : ℕ) (x : X) → slice_get xs place ≡ Some x → P x) → All P xs
all_of P xs each k d low = each k (get_or xs k d) (slice_get-get_or xs k d low)

pub each_of : {X : Type 0} (P : X → Type 0) (xs : List X) → All P xs → (place : ℕ) (x : X) → slice_get xs place ≡ Some x → P x
each_of P xs all place x is = subst P (get_or_from_slice_get xs place x x is) (all place x (slice_get_within xs place x is))
