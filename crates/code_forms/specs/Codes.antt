-- The code of each form.
use Rattle.std.specs.Prelude.{ℕ, zero, suc, ◌+◌, Bool, true, false, List, [], ◌∷◌, ◌++◌, length, Option, Some, None}
use Rattle.std.specs.Str.{bytes_eq}
use Rattle.pg_text.specs.declared.place.Place.{Place}
use Rattle.pg_value.specs.declared.value.Value.TheVariants as value
use Rattle.page_code.specs.Ops.{takes}
use Rattle.page_code.specs.Shapes.{cell, empty_shape, up, keeping, looping, trying}
use Rattle.page_code.specs.declared.call.CallBody.{CallBody}
use Rattle.page_code.specs.declared.call.CallBody.TheVariants as body
use Rattle.page_code.specs.declared.call.CallOut.{CallOut}
use Rattle.page_code.specs.declared.call.CallOut.TheVariants as call
use Rattle.page_code.specs.declared.call.Fragment as code
use Rattle.page_code.specs.declared.call.Leave.TheVariants as leave
use Rattle.page_code.specs.declared.code.Cell.{Cell}
use Rattle.page_code.specs.declared.instr.Instr.{Instr}
use Rattle.page_code.specs.declared.instr.Instr.TheVariants as instr
use Rattle.page_code.specs.declared.op.Op.TheVariants as op
use Rattle.page_code.specs.declared.shape.Shape.{Shape}
use Rattle.code_forms.specs.Forms.{Callee, own_body, own_fragment, included_page, imported_page, callee_takes, Form, nothing, both, above, counted, does, arranged, swapped, kept, chosen, where_null, ensured, looped, caught, calls, calls_tag, forwards_to, redirects_to, Handed, nothing_handed, source_handed, code_handed, Fragments, no_fragments, fragment}

-- the names before a name and those behind it
pub record Parted : Type 0 where
  pub before : List (List ℕ)
  pub behind : List (List ℕ)

-- with one name more before all, which is it where it is this one and none behind it was
abbrev pub parted_with : List ℕ → List (List ℕ) → Option Parted → Bool → Option Parted
parted_with n names (Some p) same = Some (record { before = n ∷ p.before; behind = p.behind })
parted_with n names None true = Some (record { before = []; behind = names })
parted_with n names None false = None

-- names parted at the last one that is this one
abbrev pub parted : List ℕ → List (List ℕ) → Option Parted
parted w [] = None
parted w (n ∷ names) = parted_with n names (parted w names) (bytes_eq w n)

-- brings the value to the top that has so many above it
abbrev pub brought_code : Shape → Place → (depth : ℕ) → List Cell
brought_code sh place zero = []
brought_code sh place (suc k) = cell sh place (instr.Take (suc k)) ∷ []

-- takes away so many values that stand below so many others
abbrev pub dropped_code : Shape → Place → (above : ℕ) → (many : ℕ) → List Cell
dropped_code sh place k zero = []
dropped_code sh place k (suc n) =
    brought_code (up (suc n + k) sh) place k ++ cell (up (suc n + k) sh) place (instr.Op op.Pop) ∷ dropped_code sh place k n

-- puts one wanted value above the others and above so many that were put there already, and goes on with the names of the others; names
-- stand in the order in which their values were pushed
abbrev pub put_code : Shape → Place → (names : List (List ℕ)) → (done : ℕ) → Option Parted → (List (List ℕ) → List Cell) → List Cell
put_code sh place names done (Some p) rest = brought_code (up (length names + done) sh) place (length p.behind + done) ++ rest (p.before ++ p.behind)
put_code sh place names done None rest = cell (up (length names + done) sh) place (instr.Op (op.Const value.Null)) ∷ rest names

-- puts the wanted values above the others, and takes the others away
abbrev pub arranged_code : Shape → Place → (wanted names : List (List ℕ)) → (done : ℕ) → List Cell
arranged_code sh place [] names done = dropped_code sh place done (length names)
arranged_code sh place (w ∷ wanted) names done = put_code sh place names done (parted w names) (λ others. arranged_code sh place wanted others (suc done))

-- one of two parts, which leave this shape, by what stands on top
abbrev pub either_code : Shape → (out : Shape) → Place → (test : ℕ → Instr) → (first second : List Cell) → List Cell
either_code sh out place test first second =
    let front = first ++ cell out place (instr.Jump (length second)) ∷ [] in
    cell sh place (test (length front)) ∷ (front ++ second)

-- what a caller hands down, with its end
abbrev pub handed_code : Place → List Cell → List Cell
handed_code place part = part ++ cell empty_shape place (instr.Leave leave.End) ∷ []

-- the rounds of a loop behind its start
abbrev pub rounds_code : Shape → Place → List Cell → List Cell
rounds_code sh place part = cell (looping sh) place (instr.Jump (length part)) ∷ (part ++ cell (looping sh) place (instr.LoopNext (length part)) ∷ [])

-- a fault goes on with the handler, as the end of what was tried does with a null
abbrev pub catch_code : Shape → Place → (tried handler : List Cell) → List Cell
catch_code sh place tried handler =
    let front = tried ++ cell (trying sh) place instr.CatchEnd ∷ cell sh place (instr.Op (op.Const value.Null)) ∷ [] in
    cell sh place (instr.CatchStart (length front)) ∷ (front ++ handler)

-- how a code calls
abbrev pub callee_call : Callee → CallOut
callee_call own_body = call.Body
callee_call (own_fragment name) = call.Fragment name
callee_call (included_page flush params) = call.Include flush params
callee_call imported_page = call.Import

abbrev mutual
  -- the code of a form, where so much stands open below the values that it takes
  pub form_code : {n m : ℕ} → Shape → Form n m → List Cell
  form_code sh nothing = []
  form_code sh (both f g) = form_code sh f ++ form_code sh g
  form_code sh (above k f) = form_code (up k sh) f
  form_code sh (counted e f) = form_code sh f
  form_code sh (does o place) = cell (up (takes o) sh) place (instr.Op o) ∷ []
  form_code sh (arranged wanted names place) = arranged_code sh place wanted names 0
  form_code sh (swapped place) = cell (up 2 sh) place (instr.Take 1) ∷ []
  form_code sh (kept {n = n} f place) = cell (up n sh) place instr.StartBody ∷ (form_code (keeping sh) f ++ cell (keeping sh) place instr.TakeBody ∷ [])
  form_code sh (chosen {n = n} {m = m} first second place) = either_code (up (suc n) sh) (up m sh) place (instr.JumpIf false) (form_code sh first) (form_code sh second)
  form_code sh (where_null {n = n} {m = m} absent present place) = either_code (up (suc n) sh) (up m sh) place instr.JumpNull (form_code sh present) (form_code sh absent)
  form_code sh (ensured x bean f place) = cell sh place (instr.Ensure x bean (length (form_code sh f))) ∷ form_code sh f
  form_code sh (looped kind f place) = cell (up (length kind.names) sh) place (instr.LoopStart kind) ∷ rounds_code sh place (form_code (looping sh) f)
  form_code sh (caught tried handler place) = catch_code sh place (form_code (trying sh) tried) (form_code sh handler)
  form_code sh (calls callee place) = cell (up (callee_takes callee) sh) place (instr.CallOut (callee_call callee)) ∷ []
  form_code sh (calls_tag path names b fs place) =
      cell (up (length names) sh) place (instr.CallOut (call.Tag (record { path = path; names = names; body = body_of b; fragments = sizes_of fs }))) ∷ (body_code b ++ fragments_code fs)
  form_code sh (forwards_to params place) = cell (up (takes (op.Url params)) sh) place (instr.Leave (leave.Forward params)) ∷ []
  form_code sh (redirects_to place) = cell (up 1 sh) place (instr.Leave leave.Redirect) ∷ []

  -- the body that is handed down, behind the call
  pub body_code : Handed → List Cell
  body_code nothing_handed = []
  body_code (source_handed text) = []
  body_code (code_handed f place) = handed_code place (form_code empty_shape f)

  -- the same as the call names it
  pub body_of : Handed → CallBody
  body_of nothing_handed = body.Absent
  body_of (source_handed text) = body.Source text
  body_of (code_handed f place) = body.Cells (length (handed_code place (form_code empty_shape f)))

  -- the fragments that are handed down, one behind the other
  pub fragments_code : Fragments → List Cell
  fragments_code no_fragments = []
  fragments_code (fragment name f place rest) = handed_code place (form_code empty_shape f) ++ fragments_code rest

  -- the same as the call names them
  pub sizes_of : Fragments → List code.Fragment
  sizes_of no_fragments = []
  sizes_of (fragment name f place rest) = record { name = name; size = length (handed_code place (form_code empty_shape f)) } ∷ sizes_of rest
