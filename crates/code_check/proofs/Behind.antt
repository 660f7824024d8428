-- A place behind the end of the code carries no shape.
use Rattle.std.proofs.Common.{◌≡◌, ℕ, ◌<◌, ◌≤◌, List, [], ◌∷◌, length, false, ap, sym, ◌∙◌}
use Rattle.std.specs.Prelude.{◌+◌, ◌&&◌, drop}
use Rattle.std.proofs.Math.ListN.{get_or}
use Rattle.std.proofs.lemmas.List.{at_drop_more}
use Rattle.std.proofs.lemmas.Bool.{and_right}
use Rattle.std.proofs.lemmas.Option.{slice_get_past}
use Rattle.page_code.specs.declared.call.Fragment.{Fragment}
use Rattle.page_code.specs.declared.code.Cell.{Cell}
use Rattle.page_code.specs.declared.shape.Level.{Level}
use Rattle.code_check.specs.ReadChecks.{cell_is, carries, ends_call}

pub carries_outside : (code : List Cell) (at : ℕ) (v b l : ℕ) (cs : List Level) → length code ≤ at → carries code at v b l cs ≡ false
carries_outside code at v b l cs h = ap (λ c. cell_is c v b l cs) (slice_get_past code at h)

pub ends_outside : (code : List Cell) (at : ℕ) (fragments : List Fragment) (v b l : ℕ) (cs : List Level) → length code ≤ at → ends_call code at fragments v b l cs ≡ false
ends_outside code at [] v b l cs h = carries_outside code at v b l cs h
ends_outside code at (f ∷ rest) v b l cs h = ap (λ t. t && ends_call code (at + f.size) rest v b l cs) (carries_outside code at 0 0 0 [] h)

pub ends_beyond : (code : List Cell) (at : ℕ) (f : Fragment) (rest : List Fragment) (v b l : ℕ) (cs : List Level) → length code ≤ at + f.size → ends_call code at (f ∷ rest) v b l cs ≡ false
ends_beyond code at f rest v b l cs h = and_right (carries code at 0 0 0 []) (ends_call code (at + f.size) rest v b l cs) (ends_outside code (at + f.size) rest v b l cs h)

-- the same of the fragments from the i-th on, which is f
pub ends_beyond_at : (code : List Cell) (at : ℕ) (fs : List Fragment) (i : ℕ) (f : Fragment) (v b l : ℕ) (cs : List Level) → i < length fs → f ≡ get_or fs i f → length code ≤ at + f.size → ends_call code at (drop i fs) v b l cs ≡ false
ends_beyond_at code at fs i f v b l cs in_list is_f h =
    at_drop_more (λ rest. ends_call code at rest v b l cs) fs i f in_list ∙ ap (λ g. ends_call code at (g ∷ drop (i + 1) fs) v b l cs) (sym is_f) ∙ ends_beyond code at f (drop (i + 1) fs) v b l cs h
