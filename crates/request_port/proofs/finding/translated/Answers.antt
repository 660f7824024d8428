use Rattle.std.proofs.Common.{subst, sym}
use Rattle.compiled_pages.specs.Made.{IsMade}
use Rattle.compiled_pages.specs.MadeLaws.{unit_built}
use Rattle.request_port.proofs.FindLemmas.{read_bound, read_is, text_there}
use Rattle.request_port.proofs.finding.translated.Goals as goal

pub build-requires-clause-limits : goal.build-requires-clause-limits
build-requires-clause-limits g c = c.requires.limits

pub build-requires-clause-stands : goal.build-requires-clause-stands
build-requires-clause-stands g c = text_there c.args.tree.now c.args.path.now c.requires.file

pub returns-in_err-translate-clause-bound : goal.returns-in_err-translate-clause-bound
returns-in_err-translate-clause-bound g c =
    let tree = c.args.tree.now in
    let path = c.args.path.now in
    let is = unit_built c.in_ok-unit.unit tree path (text_there tree path c.requires.file) c.in_ok-unit.ensures.unit c.in_ok-unit.ensures.needs in
    read_bound c.in_ok-unit.unit tree path _ _ is c.in_ok-unit.ensures.steps

pub returns-in_err-new-clause-bound : goal.returns-in_err-new-clause-bound
returns-in_err-new-clause-bound g c =
    let tree = c.args.tree.now in
    let path = c.args.path.now in
    let is = unit_built c.in_ok-unit.unit tree path (text_there tree path c.requires.file) c.in_ok-unit.ensures.unit c.in_ok-unit.ensures.needs in
    read_bound c.in_ok-unit.unit tree path _ _ is c.in_ok-unit.ensures.steps

pub returns-clause-made : goal.returns-clause-made
returns-clause-made g c =
    let tree = c.args.tree.now in
    let path = c.args.path.now in
    let is = unit_built c.in_ok-unit.unit tree path (text_there tree path c.requires.file) c.in_ok-unit.ensures.unit c.in_ok-unit.ensures.needs in
    subst (λ made. IsMade made tree path) (sym c.in_ok-new.ensures.ok) (c.in_ok-translate.ensures.made tree path is)

pub returns-clause-read : goal.returns-clause-read
returns-clause-read g c =
    let tree = c.args.tree.now in
    let path = c.args.path.now in
    let is = unit_built c.in_ok-unit.unit tree path (text_there tree path c.requires.file) c.in_ok-unit.ensures.unit c.in_ok-unit.ensures.needs in
    read_is c.in_ok-unit.unit tree path _ _ is c.in_ok-unit.ensures.steps

pub returns-clause-bound : goal.returns-clause-bound
returns-clause-bound g c =
    let tree = c.args.tree.now in
    let path = c.args.path.now in
    let is = unit_built c.in_ok-unit.unit tree path (text_there tree path c.requires.file) c.in_ok-unit.ensures.unit c.in_ok-unit.ensures.needs in
    read_bound c.in_ok-unit.unit tree path _ _ is c.in_ok-unit.ensures.steps
