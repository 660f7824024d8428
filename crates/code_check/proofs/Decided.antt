-- The check's test decides whether the shapes of a code fit.
use Rattle.std.proofs.Common.{◌≡◌, ℕ, ◌+◌, ◌-◌, ◌≤◌, List, [], ◌∷◌, length, Option, Some, None, Bool, ◌&&◌, nat_lt, nat_le, nat_eq, refl, sym, ap, ◌∙◌, subst, arith}
use Rattle.std.specs.Prelude.{slice_get, ⊤}
use Rattle.std.specs.Bool.{Decides}
use Rattle.std.proofs.lemmas.Bool.Decides.{Decides-and, Decides-like, Decides-eqb, Decides-ltb}
use Rattle.page_code.specs.declared.call.CallBody.{CallBody}
use Rattle.page_code.specs.declared.call.CallBody.TheVariants as body
use Rattle.page_code.specs.declared.call.CallOut.{CallOut}
use Rattle.page_code.specs.declared.call.CallOut.TheVariants as call
use Rattle.page_code.specs.declared.call.Fragment.{Fragment}
use Rattle.page_code.specs.declared.call.Leave.{Leave}
use Rattle.page_code.specs.declared.call.Leave.TheVariants as leave
use Rattle.page_code.specs.declared.call.TagCall.{TagCall}
use Rattle.page_code.specs.declared.code.Cell.{Cell}
use Rattle.page_code.specs.declared.instr.Instr.{Instr}
use Rattle.page_code.specs.declared.instr.Instr.TheVariants as instr
use Rattle.page_code.specs.declared.shape.Level.{Level}
use Rattle.page_code.specs.declared.shape.Shape.{Shape}
use Rattle.page_code.specs.Calls.{body_size, fragments_size, call_size}
use Rattle.page_code.specs.Fits.{Carries, Above, Roomy, Takes, Closes, BodyBegins, FragmentsBegin, FitsCall, FitsLeave, FitsInstr, AllFit, CodeFits}
use Rattle.page_code.specs.Ops.{takes, leaves, address_with}
use Rattle.page_code.specs.Shapes.{empty_shape, up, keeping, looping, trying}
use Rattle.code_check.specs.ReadChecks.{same_level, same_levels, level, is_shape, cell_is, carries, roomy, can_take, trying_is, cell_tries, ends_catch, begins_body, ends_call, fits_tag, fits_call, fits_leave, fits_round, fits, cell_fits, all_fit, code_fits}
use Rattle.code_check.proofs.Equal.{yes, no, both, le_decides, level_is, level_decides, levels_decide, shape_is, shape_decides}

roomy_decides : (cs : List Level) (sh : Shape) → Decides (roomy sh.values sh.bodies sh.loops cs) (Above cs sh)
roomy_decides [] sh = yes tt
roomy_decides (c ∷ cs) sh =
    both (nat_le c.values sh.values) (nat_le c.bodies sh.bodies && nat_le c.loops sh.loops) (le_decides c.values sh.values)
    (Decides-and (nat_le c.bodies sh.bodies) (nat_le c.loops sh.loops) (le_decides c.bodies sh.bodies) (le_decides c.loops sh.loops))
    (λ v h. (v, h.0, h.1)) (λ h. h.0) (λ h. (h.1, h.2))

-- a shape with so many values less
abbrev down : ℕ → Shape → Shape
down n sh = record sh { values = sh.values - n }

module _ (n : ℕ) (sh : Shape) where
  abbrev room : Bool
  room = can_take n sh.values sh.bodies sh.loops sh.catches

  rest_is : {Then : Shape → Type 0} → (p : Takes n sh Then) → p.rest ≡ down n sh
  rest_is p =
      let v : p.rest.values ≡ sh.values - n = omega (arith, ap (λ x. x.values) p.was) in
      shape_is p.rest (sh.values - n) sh.bodies sh.loops sh.catches v (sym (ap (λ x. x.bodies) p.was)) (sym (ap (λ x. x.loops) p.was)) (sym (ap (λ x. x.catches) p.was))

  was_up : n ≤ sh.values → sh ≡ up n (down n sh)
  was_up h = let e : sh.values ≡ sh.values - n + n = omega (arith, h) in ap (λ v. record sh { values = v }) e

  room_decides : Decides room ((n ≤ sh.values) × Roomy (down n sh))
  room_decides = Decides-and (nat_le n sh.values) (roomy (sh.values - n) sh.bodies sh.loops sh.catches) (le_decides n sh.values) (roomy_decides sh.catches (down n sh))

  has_room : {Then : Shape → Type 0} → Takes n sh Then → (n ≤ sh.values) × Roomy (down n sh)
  has_room p = (omega (arith, ap (λ x. x.values) p.was), subst Roomy (rest_is p) p.roomy)

  takes_decides : (Then : Shape → Type 0) (t : Bool) → Decides t (Then (down n sh)) → Decides (room && t) (Takes n sh Then)
  takes_decides Then t h =
      both room t room_decides h (λ p next. record { rest = down n sh; was = was_up p.0; roomy = p.1; next = next }) (λ p. has_room p) (λ p. subst Then (rest_is p) p.next)

  only_takes_decides : Decides room (Takes n sh (λ r. ⊤))
  only_takes_decides = Decides-like room (λ p. record { rest = down n sh; was = was_up p.0; roomy = p.1; next = tt }) (λ p. has_room p) room_decides

module _ (code : List Cell) where
  carries_decides : (at : ℕ) (sh : Shape) → Decides (carries code at sh.values sh.bodies sh.loops sh.catches) (Carries code at sh)
  carries_decides at sh = at_cell (slice_get code at) refl
    where
      at_cell : (found : Option Cell) → slice_get code at ≡ found → Decides (cell_is found sh.values sh.bodies sh.loops sh.catches) (Carries code at sh)
      at_cell None e = no (λ c. absurd (let h = c.stands in cc))
      at_cell (Some cell) e =
          Decides-like (is_shape cell.shape sh.values sh.bodies sh.loops sh.catches) (λ s. record { cell = cell; stands = e; shape = s })
          (λ c. let same : c.cell ≡ cell = (let h = c.stands in cc) in ap (λ x. x.shape) (sym same) ∙ c.shape)
          (shape_decides cell.shape sh.values sh.bodies sh.loops sh.catches)

  tries_decides : (at : ℕ) (sh : Shape) → Decides (cell_tries (slice_get code at) sh.values sh.bodies sh.loops sh.catches) (Carries code at (trying sh))
  tries_decides at sh = at_cell (slice_get code at) refl
    where
      began : (ds : List Level) → Decides (trying_is ds sh.values sh.bodies sh.loops sh.catches) (ds ≡ level sh.values sh.bodies sh.loops ∷ sh.catches)
      began [] = no (λ e. absurd (cc))
      began (d ∷ ds) =
          both (same_level d (level sh.values sh.bodies sh.loops)) (same_levels ds sh.catches) (level_decides d sh.values sh.bodies sh.loops) (levels_decide ds sh.catches) (λ e h. cc) (λ e. cc)
          (λ e. cc)

      at_cell : (found : Option Cell) → slice_get code at ≡ found → Decides (cell_tries found sh.values sh.bodies sh.loops sh.catches) (Carries code at (trying sh))
      at_cell None e = no (λ c. absurd (let h = c.stands in cc))
      at_cell (Some cell) e =
          both (nat_eq cell.shape.values sh.values)
          (nat_eq cell.shape.bodies sh.bodies && (nat_eq cell.shape.loops sh.loops && trying_is cell.shape.catches sh.values sh.bodies sh.loops sh.catches))
          (Decides-eqb cell.shape.values sh.values)
          (Decides-and (nat_eq cell.shape.bodies sh.bodies) (nat_eq cell.shape.loops sh.loops && trying_is cell.shape.catches sh.values sh.bodies sh.loops sh.catches)
          (Decides-eqb cell.shape.bodies sh.bodies)
          (Decides-and (nat_eq cell.shape.loops sh.loops) (trying_is cell.shape.catches sh.values sh.bodies sh.loops sh.catches) (Decides-eqb cell.shape.loops sh.loops) (began cell.shape.catches)))
          (λ v h. record { cell = cell; stands = e; shape = shape_is cell.shape sh.values sh.bodies sh.loops (trying sh).catches v h.0 h.1.0 h.1.1 })
          (λ c. ap (λ x. x.values) (shape_at c)) (λ c. let s = shape_at c in (ap (λ x. x.bodies) s, (ap (λ x. x.loops) s, ap (λ x. x.catches) s)))
        where
          shape_at : Carries code at (trying sh) → cell.shape ≡ trying sh
          shape_at c = let same : c.cell ≡ cell = (let h = c.stands in cc) in ap (λ x. x.shape) (sym same) ∙ c.shape

  closes_decides : (at : ℕ) (sh : Shape) (cs : List Level) → sh.catches ≡ cs → Decides (ends_catch code at sh.values sh.bodies sh.loops cs) (Closes sh trying (Carries code at))
  closes_decides at sh [] e = no (λ p. absurd (let h = ap (λ x. x.catches) p.was in cc))
  closes_decides at sh (c ∷ cs) e =
      both (same_level c (level sh.values sh.bodies sh.loops)) (carries code at sh.values sh.bodies sh.loops cs) (level_decides c sh.values sh.bodies sh.loops) (carries_decides at rest)
      (λ q n. record { rest = rest; was = ap (λ x. record sh { catches = x }) (e ∙ ap (λ x. x ∷ cs) q); next = n }) (λ p. same_first p) (λ p. subst (Carries code at) (same_rest p) p.next)
    where
      rest : Shape
      rest = record sh { catches = cs }

      heads : (p : Closes sh trying (Carries code at)) → c ∷ cs ≡ level p.rest.values p.rest.bodies p.rest.loops ∷ p.rest.catches
      heads p = sym e ∙ ap (λ x. x.catches) p.was

      same_first : (p : Closes sh trying (Carries code at)) → c ≡ level sh.values sh.bodies sh.loops
      same_first p =
          let q : c ≡ level p.rest.values p.rest.bodies p.rest.loops = (let h = heads p in cc) in
          level_is c sh.values sh.bodies sh.loops (ap (λ x. x.values) q ∙ sym (ap (λ x. x.values) p.was)) (ap (λ x. x.bodies) q ∙ sym (ap (λ x. x.bodies) p.was))
          (ap (λ x. x.loops) q ∙ sym (ap (λ x. x.loops) p.was))

      same_rest : (p : Closes sh trying (Carries code at)) → p.rest ≡ rest
      same_rest p =
          let q : cs ≡ p.rest.catches = (let h = heads p in cc) in
          shape_is p.rest sh.values sh.bodies sh.loops cs (sym (ap (λ x. x.values) p.was)) (sym (ap (λ x. x.bodies) p.was)) (sym (ap (λ x. x.loops) p.was)) (sym q)

  body_decides : (at : ℕ) (b : CallBody) → Decides (begins_body code at b) (BodyBegins code at b)
  body_decides at body.Absent = yes tt
  body_decides at (body.Source text) = yes tt
  body_decides at (body.Cells n) = carries_decides at empty_shape

  ends_decides : (at : ℕ) (fs : List Fragment) (sh : Shape) → Decides (ends_call code at fs sh.values sh.bodies sh.loops sh.catches) (FragmentsBegin code at fs × Carries code (at + fragments_size fs) sh)
  ends_decides at [] sh =
      let e : at ≡ at + 0 = omega arith in
      Decides-like (carries code at sh.values sh.bodies sh.loops sh.catches) (λ c. (tt, subst (λ k. Carries code k sh) e c)) (λ h. subst (λ k. Carries code k sh) (sym e) h.1) (carries_decides at sh)
  ends_decides at (f ∷ fs) sh =
      let e : at + f.size + fragments_size fs ≡ at + (f.size + fragments_size fs) = omega arith in
      both (carries code at 0 0 0 []) (ends_call code (at + f.size) fs sh.values sh.bodies sh.loops sh.catches) (carries_decides at empty_shape) (ends_decides (at + f.size) fs sh)
      (λ c h. ((c, h.0), subst (λ k. Carries code k sh) e h.1)) (λ h. h.0.0) (λ h. (h.0.1, subst (λ k. Carries code k sh) (sym e) h.1))

  tag_decides : (next : ℕ) (sh : Shape) (c : TagCall) → Decides (fits_tag code next sh.values sh.bodies sh.loops sh.catches c) (FitsCall code next sh (call.Tag c))
  tag_decides next sh c =
      takes_decides (length c.names) sh (λ r. BodyBegins code next c.body × FragmentsBegin code (next + body_size c.body) c.fragments × Carries code (next + call_size c) r)
      (begins_body code next c.body && ends_call code (next + body_size c.body) c.fragments (sh.values - length c.names) sh.bodies sh.loops sh.catches)
      (both (begins_body code next c.body) (ends_call code (next + body_size c.body) c.fragments (sh.values - length c.names) sh.bodies sh.loops sh.catches) (body_decides next c.body)
      (ends_decides (next + body_size c.body) c.fragments rest) (λ b h. (b, h.0, subst (λ k. Carries code k rest) behind h.1)) (λ h. h.0)
      (λ h. (h.1, subst (λ k. Carries code k rest) (sym behind) h.2)))
    where
      rest : Shape
      rest = down (length c.names) sh

      behind : next + body_size c.body + fragments_size c.fragments ≡ next + (body_size c.body + fragments_size c.fragments)
      behind = omega arith

  call_decides : (next : ℕ) (sh : Shape) (c : CallOut) → Decides (fits_call code next sh.values sh.bodies sh.loops sh.catches c) (FitsCall code next sh c)
  call_decides next sh (call.Tag c) = tag_decides next sh c
  call_decides next sh call.Body = carries_decides next sh
  call_decides next sh (call.Fragment name) = carries_decides next sh
  call_decides next sh (call.Include flush params) = takes_decides (address_with params) sh (Carries code next) _ (carries_decides next (down (address_with params) sh))
  call_decides next sh call.Import = takes_decides 1 sh (Carries code next) _ (carries_decides next (down 1 sh))

  leave_decides : (sh : Shape) (l : Leave) → Decides (fits_leave sh.values sh.bodies sh.loops sh.catches l) (FitsLeave sh l)
  leave_decides sh (leave.Forward params) = only_takes_decides (address_with params) sh
  leave_decides sh leave.Redirect = only_takes_decides 1 sh
  leave_decides sh leave.End = at_catches sh.catches refl
    where
      without : (cs : List Level) → length cs ≡ 0 → cs ≡ []
      without [] e = refl
      without (c ∷ cs) e = absurd (omega (arith, e))

      none : (cs : List Level) → Decides (nat_eq (length cs) 0) (cs ≡ [])
      none cs = Decides-like (nat_eq (length cs) 0) (without cs) (λ e. ap length e) (Decides-eqb (length cs) 0)

      at_catches : (cs : List Level) → sh.catches ≡ cs → Decides (nat_eq sh.values 0 && (nat_eq sh.bodies 0 && (nat_eq sh.loops 0 && nat_eq (length cs) 0))) (sh ≡ empty_shape)
      at_catches cs e =
          both (nat_eq sh.values 0) (nat_eq sh.bodies 0 && (nat_eq sh.loops 0 && nat_eq (length cs) 0)) (Decides-eqb sh.values 0)
          (Decides-and (nat_eq sh.bodies 0) (nat_eq sh.loops 0 && nat_eq (length cs) 0) (Decides-eqb sh.bodies 0)
          (Decides-and (nat_eq sh.loops 0) (nat_eq (length cs) 0) (Decides-eqb sh.loops 0) (none cs)))
          (λ v h. shape_is sh 0 0 0 [] v h.0 h.1.0 (e ∙ h.1.1)) (λ s. ap (λ x. x.values) s)
          (λ s. (ap (λ x. x.bodies) s, (ap (λ x. x.loops) s, sym e ∙ ap (λ x. x.catches) s)))

  -- a kept body is there, and the place carries the shape without it and with its text
  taken_decides : (at : ℕ) (sh : Shape) → Decides (nat_lt 0 sh.bodies && carries code at (sh.values + 1) (sh.bodies - 1) sh.loops sh.catches) (Closes sh keeping (λ r. Carries code at (up 1 r)))
  taken_decides at sh =
      both (nat_lt 0 sh.bodies) (carries code at (sh.values + 1) (sh.bodies - 1) sh.loops sh.catches) (Decides-ltb 0 sh.bodies) (carries_decides at (up 1 less))
      (λ p c. let e : sh.bodies ≡ sh.bodies - 1 + 1 = omega (arith, p) in record { rest = less; was = ap (λ b. record sh { bodies = b }) e; next = c })
      (λ p. omega (arith, ap (λ x. x.bodies) p.was)) (λ p. subst (λ r. Carries code at (up 1 r)) (is_less p) p.next)
    where
      less : Shape
      less = record sh { bodies = sh.bodies - 1 }

      is_less : (p : Closes sh keeping (λ r. Carries code at (up 1 r))) → p.rest ≡ less
      is_less p =
          let b : p.rest.bodies ≡ sh.bodies - 1 = omega (arith, ap (λ x. x.bodies) p.was) in
          shape_is p.rest sh.values (sh.bodies - 1) sh.loops sh.catches (sym (ap (λ x. x.values) p.was)) b (sym (ap (λ x. x.loops) p.was)) (sym (ap (λ x. x.catches) p.was))

  round_decides : (pc n : ℕ) (sh : Shape) → Decides (fits_round code pc n sh.values sh.bodies sh.loops sh.catches) (FitsInstr code pc sh (instr.LoopNext n))
  round_decides pc n sh =
      both (nat_lt 0 sh.loops) (nat_le n pc && (carries code (pc + 1) sh.values sh.bodies (sh.loops - 1) sh.catches && carries code (pc - n) sh.values sh.bodies sh.loops sh.catches))
      (Decides-ltb 0 sh.loops)
      (Decides-and (nat_le n pc) (carries code (pc + 1) sh.values sh.bodies (sh.loops - 1) sh.catches && carries code (pc - n) sh.values sh.bodies sh.loops sh.catches) (le_decides n pc)
      (Decides-and (carries code (pc + 1) sh.values sh.bodies (sh.loops - 1) sh.catches) (carries code (pc - n) sh.values sh.bodies sh.loops sh.catches) (carries_decides (pc + 1) less) (carries_decides (pc - n) sh)))
      (λ p c. let e : sh.loops ≡ sh.loops - 1 + 1 = omega (arith, p) in record { rest = less; was = ap (λ l. record sh { loops = l }) e; next = (c.0, c.1.0, c.1.1) })
      (λ p. omega (arith, ap (λ x. x.loops) p.was)) (λ p. (p.next.0, (subst (Carries code (pc + 1)) (is_less p) p.next.1, p.next.2)))
    where
      less : Shape
      less = record sh { loops = sh.loops - 1 }

      is_less : (p : FitsInstr code pc sh (instr.LoopNext n)) → p.rest ≡ less
      is_less p =
          let l : p.rest.loops ≡ sh.loops - 1 = omega (arith, ap (λ x. x.loops) p.was) in
          shape_is p.rest sh.values sh.bodies (sh.loops - 1) sh.catches (sym (ap (λ x. x.values) p.was)) (sym (ap (λ x. x.bodies) p.was)) l (sym (ap (λ x. x.catches) p.was))

  instr_decides : (pc : ℕ) (sh : Shape) (i : Instr) → Decides (fits code pc sh.values sh.bodies sh.loops sh.catches i) (FitsInstr code pc sh i)
  instr_decides pc sh (instr.Op o) = takes_decides (takes o) sh (λ r. Carries code (pc + 1) (up (leaves o) r)) _ (carries_decides (pc + 1) (up (leaves o) (down (takes o) sh)))
  instr_decides pc sh (instr.Take below) = takes_decides (below + 1) sh (λ r. Carries code (pc + 1) sh) _ (carries_decides (pc + 1) sh)
  instr_decides pc sh instr.StartBody = carries_decides (pc + 1) (keeping sh)
  instr_decides pc sh instr.TakeBody = taken_decides (pc + 1) sh
  instr_decides pc sh (instr.Jump n) = carries_decides (pc + 1 + n) sh
  instr_decides pc sh (instr.JumpIf t n) =
      takes_decides 1 sh (λ r. Carries code (pc + 1) r × Carries code (pc + 1 + n) r) _
      (Decides-and (carries code (pc + 1) (sh.values - 1) sh.bodies sh.loops sh.catches) _ (carries_decides (pc + 1) (down 1 sh)) (carries_decides (pc + 1 + n) (down 1 sh)))
  instr_decides pc sh (instr.JumpNull n) =
      takes_decides 1 sh (λ r. Carries code (pc + 1) sh × Carries code (pc + 1 + n) r) _
      (Decides-and (carries code (pc + 1) sh.values sh.bodies sh.loops sh.catches) _ (carries_decides (pc + 1) sh) (carries_decides (pc + 1 + n) (down 1 sh)))
  instr_decides pc sh (instr.Ensure x bean n) =
      Decides-and (carries code (pc + 1) sh.values sh.bodies sh.loops sh.catches) _ (carries_decides (pc + 1) sh) (carries_decides (pc + 1 + n) sh)
  instr_decides pc sh (instr.LoopStart k) =
      takes_decides (length k.names) sh (λ r. Carries code (pc + 1) (looping r)) _ (carries_decides (pc + 1) (looping (down (length k.names) sh)))
  instr_decides pc sh (instr.LoopNext n) = round_decides pc n sh
  instr_decides pc sh (instr.CatchStart n) =
      Decides-and (cell_tries (slice_get code (pc + 1)) sh.values sh.bodies sh.loops sh.catches) _ (tries_decides (pc + 1) sh) (carries_decides (pc + 1 + n) (up 1 sh))
  instr_decides pc sh instr.CatchEnd = closes_decides (pc + 1) sh sh.catches refl
  instr_decides pc sh (instr.CallOut c) = call_decides (pc + 1) sh c
  instr_decides pc sh (instr.Leave l) = leave_decides sh l

  all_decides : (pc : ℕ) (cells : List Cell) → Decides (all_fit code pc cells) (AllFit code pc cells)
  all_decides pc [] = yes tt
  all_decides pc (c ∷ rest) =
      Decides-and (cell_fits code pc c) (all_fit code (pc + 1) rest)
      (Decides-and (roomy c.shape.values c.shape.bodies c.shape.loops c.shape.catches) _ (roomy_decides c.shape.catches c.shape) (instr_decides pc c.shape c.instr))
      (all_decides (pc + 1) rest)

pub code_decides : (code : List Cell) → Decides (code_fits code) (CodeFits code)
code_decides code = Decides-and (carries code 0 0 0 0 []) (all_fit code 0 code) (carries_decides code 0 empty_shape) (all_decides code 0 code)
