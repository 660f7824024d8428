-- How a draft grows.
use Rattle.std.proofs.Common.{◌≡◌, ℕ, ◌+◌, ◌≤◌, Bool, true, false, ◌&&◌, List, [], ◌∷◌, ◌++◌, length, refl, arith}
use Rattle.std.specs.Prelude.{nat_le}
use Rattle.std.proofs.lemmas.Bool.{leb-true, false≢true}
use Rattle.std.proofs.lemmas.List.Sums.{sum_by-append}
use Rattle.source_tree.specs.declared.edit.Edit.{Edit}
use Rattle.editor.specs.declared.limits.TheConstants.{MAX_DRAFT_BYTES, MAX_DRAFT_EDITS}
use Rattle.editor.specs.Draft.{draft_bytes, edit_bytes, is_draft}

both : (a b : Bool) → (a && b) ≡ true → (a ≡ true) × (b ≡ true)
both true b e = (refl, e)
both false b e = absurd (false≢true e)

-- a draft with one edit more keeps its sum and its limits, where it may have that edit
pub draft_more : (draft : List Edit) (edit : Edit) (bytes more : ℕ) → bytes ≡ draft_bytes draft → more ≡ edit_bytes edit → is_draft (draft ++ edit ∷ []) ≡ true
    → (bytes + more ≡ draft_bytes (draft ++ edit ∷ [])) × (length (draft ++ edit ∷ []) ≤ MAX_DRAFT_EDITS) × (bytes + more ≤ MAX_DRAFT_BYTES)
unfolding is_draft
draft_more draft edit bytes more was is may =
    let parts = both (nat_le (length (draft ++ edit ∷ [])) MAX_DRAFT_EDITS) (nat_le (draft_bytes (draft ++ edit ∷ [])) MAX_DRAFT_BYTES) may in
    let sum : bytes + more ≡ draft_bytes (draft ++ edit ∷ []) = omega (arith, sum_by-append edit_bytes draft (edit ∷ []), was, is) in
    (sum, leb-true (length (draft ++ edit ∷ [])) MAX_DRAFT_EDITS parts.0, omega (arith, leb-true (draft_bytes (draft ++ edit ∷ [])) MAX_DRAFT_BYTES parts.1, sum))
