-- Cells that stand in a code, and what a fault cuts away.
use Rattle.std.proofs.Common.{◌≡◌, ℕ, suc, ◌+◌, ◌-◌, ◌<◌, ◌≤◌, List, [], ◌∷◌, ◌++◌, length, Some, ap, ◌∙◌, subst, arith, append_assoc, length-append}
use Rattle.std.specs.Prelude.{slice_get, drop}
use Rattle.std.proofs.Math.Seq.{get_or-append_seam}
use Rattle.std.proofs.lemmas.Option.{slice_get-get_or}
use Rattle.out_buffer.specs.Writer.{last_of}
use Rattle.page_code.specs.declared.code.Cell.{Cell}
use Rattle.page_table.specs.Open.{Loop, OpenCatch}
use Rattle.pg_value.specs.Datum.{Datum}

-- the cells stand in the code at this place
abbrev pub HasAt : List Cell → ℕ → List Cell → Type 0
HasAt code pc [] = Unit {0}
HasAt code pc (c ∷ cells) = (slice_get code pc ≡ Some c) × HasAt code (pc + 1) cells

pub has_front : (code : List Cell) (pc : ℕ) (a b : List Cell) → HasAt code pc (a ++ b) → HasAt code pc a
has_front code pc [] b h = tt
has_front code pc (c ∷ a) b h = (h.0, has_front code (pc + 1) a b h.1)

pub has_back : (code : List Cell) (pc : ℕ) (a b : List Cell) → HasAt code pc (a ++ b) → HasAt code (pc + length a) b
has_back code pc [] b h = let e : pc ≡ pc + 0 = omega arith in subst (λ n. HasAt code n b) e h
has_back code pc (c ∷ a) b h =
    let e : pc + 1 + length a ≡ pc + length (c ∷ a) = omega arith in
    subst (λ n. HasAt code n b) e (has_back code (pc + 1) a b h.1)

-- a code stands in itself
pub has_all : (cells before : List Cell) → HasAt (before ++ cells) (length before) cells
has_all [] before = tt
has_all (c ∷ cells) before =
    let within : length before < length (before ++ c ∷ cells) = omega (arith, length-append before (c ∷ cells)) in
    let here = slice_get-get_or (before ++ c ∷ cells) (length before) c within ∙ ap Some (get_or-append_seam before c cells c) in
    let n : length (before ++ c ∷ []) ≡ length before + 1 = omega (arith, length-append before (c ∷ [])) in
    let rest = subst (λ l. HasAt l (length (before ++ c ∷ [])) cells) (append_assoc before (c ∷ []) cells) (has_all cells (before ++ c ∷ [])) in
    (here, subst (λ m. HasAt (before ++ c ∷ cells) m cells) n rest)

pub last_push : {A : Type 0} (n : ℕ) (a : A) (rest : List A) → n ≤ length rest → last_of n (a ∷ rest) ≡ last_of n rest
last_push n a rest h = let e : length (a ∷ rest) - n ≡ suc (length rest - n) = omega (arith, h) in ap (λ k. drop k (a ∷ rest)) e

pub last_all : {A : Type 0} (items : List A) → last_of (length items) items ≡ items
last_all items = let e : length items - length items ≡ 0 = omega arith in ap (λ k. drop k items) e

-- what the innermost catch remembers still stands
abbrev pub Fits : List OpenCatch → List Datum → List Loop → Type 0
Fits [] stack loops = Unit {0}
Fits (c ∷ outer) stack loops = (c.values ≤ length stack) × (c.loops ≤ length loops)

pub fits_push : (cs : List OpenCatch) (d : Datum) (stack : List Datum) (loops : List Loop) → Fits cs stack loops → Fits cs (d ∷ stack) loops
fits_push [] d stack loops h = tt
fits_push (c ∷ outer) d stack loops h = (omega (arith, h.0), h.1)

pub fits_loop : (cs : List OpenCatch) (stack : List Datum) (l : Loop) (loops : List Loop) → Fits cs stack loops → Fits cs stack (l ∷ loops)
fits_loop [] stack l loops h = tt
fits_loop (c ∷ outer) stack l loops h = (h.0, omega (arith, h.1))

pub fits_all : (cs : List OpenCatch) (vs stack : List Datum) (loops : List Loop) → Fits cs stack loops → Fits cs (vs ++ stack) loops
fits_all cs [] stack loops fits = fits
fits_all cs (v ∷ vs) stack loops fits = fits_push cs v (vs ++ stack) loops (fits_all cs vs stack loops fits)
