-- What a call gives begins with the empty shape in the code of its caller; a tag file that is found has a code whose shapes fit.
use Rattle.std.proofs.Common.{◌≡◌, ◌+◌, ℕ, Bool, true, false, List, [], ◌∷◌, Option, Some, None, subst}
use Rattle.std.specs.List.{find}
use Rattle.std.specs.Prelude.{cond}
use Rattle.std.specs.Str.{bytes_eq}
use Rattle.page_code.specs.Calls.{body_size, fragments_from}
use Rattle.page_code.specs.Fits.{Carries, BodyBegins, FragmentsBegin, CodeFits}
use Rattle.page_code.specs.Shapes.{empty_shape}
use Rattle.page_code.specs.declared.call.CallBody.{CallBody}
use Rattle.page_code.specs.declared.call.CallBody.TheVariants as body_is
use Rattle.page_code.specs.declared.call.Fragment.{Fragment}
use Rattle.page_code.specs.declared.code.Cell.{Cell}
use Rattle.page_table.specs.Checked.{TagsFit}
use Rattle.page_table.specs.Program.{TagCode, tag_at}
use Rattle.page_table.specs.Seat.{Given, nothing, source_text, code_at, body_given, fragment_given}

-- a code that is given begins with the empty shape
abbrev pub GivenFits : List Cell → Given → Type 0
GivenFits code nothing = Unit {0}
GivenFits code (source_text t) = Unit {0}
GivenFits code (code_at at) = Carries code at empty_shape

pub body_fits : (code : List Cell) (body : CallBody) (behind : ℕ) → BodyBegins code behind body → GivenFits code (body_given body behind)
body_fits code body_is.Absent behind h = tt
body_fits code (body_is.Source t) behind h = tt
body_fits code (body_is.Cells n) behind h = h

abbrev some : Option (List ℕ × ℕ) → Given
some (Some f) = code_at f.1
some None = nothing

found_fits : (code : List Cell) (name : List ℕ) (fragments : List Fragment) (at : ℕ) → FragmentsBegin code at fragments
    → GivenFits code (some (find (λ f. bytes_eq name f.0) (fragments_from at fragments)))
found_fits code name [] at h = tt
found_fits code name (f ∷ rest) at h = go (bytes_eq name f.name) (found_fits code name rest (at + f.size) h.1)
  where
    go : (b : Bool) → GivenFits code (some (find (λ g. bytes_eq name g.0) (fragments_from (at + f.size) rest)))
        → GivenFits code (some (cond b (Some (f.name, at)) (find (λ g. bytes_eq name g.0) (fragments_from (at + f.size) rest))))
    go true others = h.0
    go false others = others

pub fragment_fits : (code : List Cell) (name : List ℕ) (body : CallBody) (fragments : List Fragment) (behind : ℕ) → FragmentsBegin code (behind + body_size body) fragments
    → GivenFits code (fragment_given name body fragments behind)
fragment_fits code name body fragments behind h = found_fits code name fragments (behind + body_size body) h

-- a tag file of a unit
abbrev TagFits : Option TagCode → Type 0
TagFits None = Unit {0}
TagFits (Some tag) = CodeFits tag.code

any_fits : (path : List ℕ) (tags : List TagCode) → TagsFit tags → TagFits (tag_at path tags)
any_fits path [] h = tt
any_fits path (t ∷ rest) h = go (bytes_eq path t.path) (any_fits path rest h.1)
  where
    go : (b : Bool) → TagFits (tag_at path rest) → TagFits (cond b (Some t) (tag_at path rest))
    go true others = h.0
    go false others = others

pub tag_fits : (path : List ℕ) (tags : List TagCode) → TagsFit tags → (tag : TagCode) → tag_at path tags ≡ Some tag → CodeFits tag.code
tag_fits path tags h tag e = subst TagFits e (any_fits path tags h)
