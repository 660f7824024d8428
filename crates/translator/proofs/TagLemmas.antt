-- The tag files of a page, each as its code.
use Rattle.std.proofs.Common.{◌≡◌, ℕ, zero, suc, ◌<◌, List, [], ◌∷◌, get_or, length, map, sym, subst, arith}
use Rattle.page_code.specs.Fits.{CodeFits}
use Rattle.code_lowering.specs.Programs.{tag_code_of}
use Rattle.page_meaning.specs.Page.{Page}
use Rattle.unit_meaning.specs.Shape.{tag_of}
use Rattle.page_table.specs.Checked.{TagsFit}
use Rattle.unit_nodes.specs.Views.{tag_view}
use Rattle.unit_nodes.specs.declared.unit.TagFile.{TagFile}

-- the shapes of one of them fit
pub fits_at : (page : Page) (tags : List TagFile) (i : ℕ) (tag : TagFile) → i < length tags → tag ≡ get_or tags i tag → TagsFit (map (tag_code_of page) (map tag_of (map tag_view tags)))
    → CodeFits (tag_code_of page (tag_of (tag_view tag))).code
fits_at page [] i tag lt is fit = absurd (omega (arith, lt))
fits_at page (t ∷ rest) zero tag lt is fit = subst (λ x. CodeFits (tag_code_of page (tag_of (tag_view x))).code) (sym is) fit.0
fits_at page (t ∷ rest) (suc i) tag lt is fit = fits_at page rest i tag (omega (arith, lt)) is fit.1
