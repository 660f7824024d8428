-- Where the body and the fragments of a call stand: behind it, one after the other.
use Rattle.std.specs.Prelude.{ℕ, ◌+◌, List, [], ◌∷◌}
use Rattle.page_code.specs.declared.call.CallBody.{CallBody}
use Rattle.page_code.specs.declared.call.CallBody.TheVariants as body
use Rattle.page_code.specs.declared.call.Fragment.{Fragment}
use Rattle.page_code.specs.declared.call.TagCall.{TagCall}

-- how many cells a body has
abbrev pub body_size : CallBody → ℕ
body_size body.Absent = 0
body_size (body.Source text) = 0
body_size (body.Cells n) = n

-- how many cells fragments have together
abbrev pub fragments_size : List Fragment → ℕ
fragments_size [] = 0
fragments_size (f ∷ rest) = f.size + fragments_size rest

-- how many cells a call passes over
abbrev pub call_size : TagCall → ℕ
call_size c = body_size c.body + fragments_size c.fragments

-- the fragments by their names, each with the place of its first cell, where the first of them stands at this place
abbrev pub fragments_from : ℕ → List Fragment → List (List ℕ × ℕ)
fragments_from at [] = []
fragments_from at (f ∷ rest) = (f.name, at) ∷ fragments_from (at + f.size) rest
