-- Steps mean the same by tables that grew.
use Rattle.std.proofs.Common.{◌≡◌, ◌≤◌, ◌<◌, ℕ, List, [], ◌∷◌, ◌++◌, length, get_or, refl, sym, ap, ◌∙◌, arith}
use Rattle.std.specs.Prelude.{All}
use Rattle.std.proofs.lemmas.List.{append_assoc, get_or_append_left, length-append, map-append}
use Rattle.std.proofs.lemmas.List.Elements.{All-append, All-cons, All-head, All-nil, All-tail, All-weaker}
use Rattle.std.proofs.lemmas.Option.{get_or_from_slice_get, slice_get_within}
use Rattle.page_code.specs.Shapes.{cell, empty_shape}
use Rattle.page_code.specs.Tables.{HasNumber, IsListed, IsStepOf, no_place, step_cell, step_cells}
use Rattle.page_code.specs.declared.code.Cell.{Cell}
use Rattle.page_code.specs.declared.instr.Instr.{Instr}
use Rattle.page_code.specs.declared.instr.Instr.TheVariants as instr
use Rattle.page_code.specs.declared.shape.Shape.{Shape}
use Rattle.page_code.specs.declared.step.Step.{Step}
use Rattle.pg_text.specs.declared.place.Place.{Place}

-- what was in a table stays
kept : {X : Type 0} (old new : List X) (x : X) (n : ℕ) → HasNumber old new x n → (k : ℕ) (d : X) → k < length old → get_or new k d ≡ get_or old k d
kept old new x n h k d below = ap (λ l. get_or l k d) h.grown ∙ get_or_append_left old h.more d k below

longer : {X : Type 0} (old new : List X) (x : X) (n : ℕ) → HasNumber old new x n → length old ≤ length new
longer old new x n h = omega (arith, ap length h.grown, length-append old h.more)

module _ (is is2 : List Instr) (ps ps2 : List Place) (shs shs2 : List Shape) (c : Cell) (s : Step) (h : IsStepOf is is2 ps ps2 shs shs2 c s) where
  -- the cell of a step that was there
  same_cell : (t : Step) → IsListed is ps shs t → step_cell is2 ps2 shs2 t ≡ step_cell is ps shs t
  same_cell t l =
      ap (λ x. cell (get_or shs2 t.shape empty_shape) (get_or ps2 t.place no_place) x) (kept is is2 c.instr s.instr h.instr t.instr instr.StartBody l.instr)
      ∙ ap (λ x. cell (get_or shs2 t.shape empty_shape) x (get_or is t.instr instr.StartBody)) (kept ps ps2 c.place s.place h.place t.place no_place l.place)
      ∙ ap (λ x. cell x (get_or ps t.place no_place) (get_or is t.instr instr.StartBody)) (kept shs shs2 c.shape s.shape h.shape t.shape empty_shape l.shape)

  same_cells : (steps : List Step) → All (IsListed is ps shs) steps → step_cells is2 ps2 shs2 steps ≡ step_cells is ps shs steps
  same_cells [] all = refl
  same_cells (t ∷ rest) all =
      ap (λ x. x ∷ step_cells is2 ps2 shs2 rest) (same_cell t (All-head (IsListed is ps shs) t rest all))
      ∙ ap (λ l. step_cell is ps shs t ∷ l) (same_cells rest (All-tail (IsListed is ps shs) t rest all))

  -- the cell of the new step
  new_cell : step_cell is2 ps2 shs2 s ≡ c
  new_cell =
      ap (λ x. cell (get_or shs2 s.shape empty_shape) (get_or ps2 s.place no_place) x) (get_or_from_slice_get is2 s.instr c.instr instr.StartBody h.instr.there)
      ∙ ap (λ x. cell (get_or shs2 s.shape empty_shape) x c.instr) (get_or_from_slice_get ps2 s.place c.place no_place h.place.there)
      ∙ ap (λ x. cell x c.place c.instr) (get_or_from_slice_get shs2 s.shape c.shape empty_shape h.shape.there)

  -- one step more is one cell more
  more_cells : (steps : List Step) → All (IsListed is ps shs) steps → step_cells is2 ps2 shs2 (steps ++ s ∷ []) ≡ step_cells is ps shs steps ++ c ∷ []
  more_cells steps all =
      map-append (step_cell is2 ps2 shs2) steps (s ∷ []) ∙ ap (λ l. l ++ step_cell is2 ps2 shs2 s ∷ []) (same_cells steps all) ∙ ap (λ x. step_cells is ps shs steps ++ x ∷ []) new_cell

  still_listed : (t : Step) → IsListed is ps shs t → IsListed is2 ps2 shs2 t
  still_listed t l = record {
    instr = omega (arith, l.instr, longer is is2 c.instr s.instr h.instr);
    place = omega (arith, l.place, longer ps ps2 c.place s.place h.place);
    shape = omega (arith, l.shape, longer shs shs2 c.shape s.shape h.shape);
  }

  new_listed : IsListed is2 ps2 shs2 s
  new_listed = record {
    instr = slice_get_within is2 s.instr c.instr h.instr.there;
    place = slice_get_within ps2 s.place c.place h.place.there;
    shape = slice_get_within shs2 s.shape c.shape h.shape.there;
  }

  pub more_listed : (steps : List Step) → All (IsListed is ps shs) steps → All (IsListed is2 ps2 shs2) (steps ++ s ∷ [])
  more_listed steps all =
      All-append (IsListed is2 ps2 shs2) steps (s ∷ []) (All-weaker (IsListed is ps shs) (IsListed is2 ps2 shs2) still_listed steps all)
      (All-cons (IsListed is2 ps2 shs2) s [] new_listed (All-nil (IsListed is2 ps2 shs2)))

  -- the steps before what is left are the whole still
  pub more_packed : (steps pushed : List Step) (rest left whole : List Cell) → All (IsListed is ps shs) steps → pushed ≡ steps ++ s ∷ [] → left ≡ c ∷ rest
      → step_cells is ps shs steps ++ left ≡ whole → step_cells is2 ps2 shs2 pushed ++ rest ≡ whole
  more_packed steps pushed rest left whole all push first packs =
      ap (λ l. step_cells is2 ps2 shs2 l ++ rest) push ∙ ap (λ l. l ++ rest) (more_cells steps all) ∙ append_assoc (step_cells is ps shs steps) (c ∷ []) rest
      ∙ ap (λ l. step_cells is ps shs steps ++ l) (sym first) ∙ packs
