use Rattle.std.proofs.Common.{◌+◌, ap, ◌∙◌}
use Rattle.compiled_pages.specs.Made.{IsUnitOf}
use Rattle.compiled_pages.specs.MadeLaws.{unit_built}
use Rattle.tree_pages.proofs.Counting.{bytes_of_unit, counted_all}
use Rattle.tree_pages.proofs.making.make.Goals as goal
use Rattle.unit_words.specs.Views.{unit_view}

pub returns-clause-made : goal.returns-clause-made
returns-clause-made g c = c.translate.ensures.made c.args.tree.now c.args.path.now (unit_built c.in_ok-unit.unit c.args.tree.now c.args.path.now c.requires.stands c.in_ok-unit.ensures.unit c.in_ok-unit.ensures.needs)

pub returns-clause-counted : goal.returns-clause-counted
returns-clause-counted g c =
    let unit : IsUnitOf c.in_ok-unit.unit c.args.tree.now c.args.path.now = unit_built c.in_ok-unit.unit c.args.tree.now c.args.path.now c.requires.stands c.in_ok-unit.ensures.unit c.in_ok-unit.ensures.needs in
    counted_all c.args.tree.now c.args.path.now c.args.steps.now c.build.new.steps c.translate.result
    (c.in_ok-unit.ensures.steps ∙ ap (λ n. c.args.steps.now + n) (bytes_of_unit c.args.tree.now c.args.path.now (unit_view c.in_ok-unit.unit) unit.stands))
