use Rattle.std.proofs.Common.{◌≡◌, ◌<◌, ℕ, zero, suc, List, [], ◌∷◌, length, get_or, subst, add-one, arith}
use Rattle.std.specs.Prelude.{map, take}
use Rattle.page_code.specs.Fits.{CodeFits}
use Rattle.run_world.specs.Tags.{tag_of}
use Rattle.run_world.specs.declared.program.TagProgram.{TagProgram}
use Rattle.page_table.specs.Checked.{TagsFit}
use Rattle.run_world.proofs.program.know_tags.Goals as goal

one_more : (i : ℕ) (xs : List TagProgram) (tag : TagProgram) → i < length xs → TagsFit (map tag_of (take i xs)) → CodeFits tag.code → tag ≡ get_or xs i tag → TagsFit (map tag_of (take (suc i) xs))
one_more i [] tag h fits own is = absurd (omega (arith, h))
one_more zero (x ∷ xs) tag h fits own is = (subst (λ t. CodeFits t.code) is own, tt)
one_more (suc i) (x ∷ xs) tag h fits own is = (fits.0, one_more i xs tag (omega (arith, h)) fits.1 own is)

pub loop-tag-preserved : goal.loop-tag-preserved
loop-tag-preserved c =
    rw add-one
    (one_more c.loop-tag.tag-index c.args.tags.now c.tag-item.result c.loop-tag-test.true c.loop-tag.invariant
    c.code.ensures.fits c.tag-item.is)
