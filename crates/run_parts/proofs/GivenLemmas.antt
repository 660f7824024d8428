-- The fragments that a call gives.
use Rattle.std.proofs.Common.{◌≡◌, ℕ, ◌+◌, true, false, List, ◌∷◌, Option, Some, None, refl}
use Rattle.std.specs.List.{find}
use Rattle.std.specs.Str.{bytes_eq}
use Rattle.page_code.specs.Calls.{body_size, fragments_from}
use Rattle.page_code.specs.declared.call.CallBody.{CallBody}
use Rattle.page_code.specs.declared.call.Fragment.{Fragment}
use Rattle.page_table.specs.Seat.{Given, nothing, code_at, fragment_given}

abbrev at_place : Option (List ℕ × ℕ) → Given
at_place (Some f) = code_at f.1
at_place None = nothing

-- the fragment of a name among these, the first of which stands at a place
abbrev pub fragment_behind : List ℕ → ℕ → List Fragment → Given
fragment_behind name at fragments = at_place (find (λ f. bytes_eq name f.0) (fragments_from at fragments))

pub given_first : (name : List ℕ) (at : ℕ) (f : Fragment) (rest : List Fragment) → bytes_eq name f.name ≡ true → fragment_behind name at (f ∷ rest) ≡ code_at at
given_first name at f rest e = rw e refl

pub given_rest : (name : List ℕ) (at : ℕ) (f : Fragment) (rest : List Fragment) → bytes_eq name f.name ≡ false → fragment_behind name at (f ∷ rest) ≡ fragment_behind name (at + f.size) rest
given_rest name at f rest e = rw e refl

pub given_is : (name : List ℕ) (body : CallBody) (fragments : List Fragment) (behind : ℕ) → fragment_given name body fragments behind ≡ fragment_behind name (behind + body_size body) fragments
given_is name body fragments behind = go (find (λ f. bytes_eq name f.0) (fragments_from (behind + body_size body) fragments)) refl
  where
    go : (o : Option (List ℕ × ℕ)) → find (λ f. bytes_eq name f.0) (fragments_from (behind + body_size body) fragments) ≡ o
        → fragment_given name body fragments behind ≡ fragment_behind name (behind + body_size body) fragments
    go (Some f) e = rw e refl
    go None e = rw e refl
