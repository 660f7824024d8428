use Rattle.std.proofs.Common.{subst, sym}
use Rattle.compiled_pages.specs.Made.{IsMade}
use Rattle.compiled_pages.specs.MadeLaws.{unit_built}
use Rattle.journal_entries.proofs.making.made.Goals as goal

pub returns : goal.returns
returns g c =
    let tree = c.args.tree.now in
    let path = c.args.path.now in
    let is = unit_built c.in_ok-unit.unit tree path c.requires.stands c.in_ok-unit.ensures.unit c.in_ok-unit.ensures.needs in
    subst (λ made. IsMade made tree path) (sym c.in_ok-new.ensures.ok) (c.in_ok-translate.ensures.made tree path is)
