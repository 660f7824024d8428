use Rattle.std.proofs.Common.{◌+◌, ◌≤◌, arith}
use Rattle.std.specs.Arc.{arc_value}
use Rattle.compiled_pages.specs.Made.{IsMade}
use Rattle.compiled_pages.specs.Pages.{needs_at}
use Rattle.pass_course.proofs.CourseLemmas.{done_acts}
use Rattle.request_port.proofs.FindLemmas.{fetched_on, found_hit, found_missed, found_none, of_run, same_offers, same_under}
use Rattle.request_port.proofs.finding.find.Goals as goal
use Rattle.site_words.specs.Weights.{end_weight, op_weight}
use Rattle.site_words.specs.declared.words.Op.TheVariants as op

pub make-requires-clause-under : goal.make-requires-clause-under
make-requires-clause-under g c =
    let port = c.args.port.now in
    let tree = c.args.tree.now in
    let path = c.args.path.now in
    let u = c.requires.under in
    let acts = rw c.in-Ok-None.field-0-is at c.in-Ok-None.ensures.call in
    let room = op_weight (op.Offer c.args.request path) + end_weight in
    let enough : op_weight (op.Fetch c.args.request path) + room ≤ u.0.left = let r = u.2 in omega (arith, r) in
    same_under (g.Q.Port.opening port) (g.Q.Port.opening c.fetch.new.self) (g.Q.Port.pass port) (g.Q.Port.pass c.fetch.new.self) (g.Q.Port.seen c.fetch.new.self) c.args.request tree room c.fetch.ensures.same.1 c.fetch.ensures.same.0
    (fetched_on needs_at (g.Q.Port.opening port) (g.Q.Port.pass port) (g.Q.Port.seen port) (g.Q.Port.seen c.fetch.new.self) c.args.request tree u.0 path _ room u.1
    (done_acts needs_at (g.Q.Port.opening port) (g.Q.Port.pass port) (g.Q.Port.seen port) (g.Q.Port.seen c.fetch.new.self) (op.Fetch c.args.request path) _ acts) enough)

pub returns-in-Ok-Some-clause-made : goal.returns-in-Ok-Some-clause-made
returns-in-Ok-Some-clause-made g c =
    let port = c.args.port.now in
    let u = c.requires.under in
    let made = rw c.in-Ok-Some.field-0-is at c.in-Ok-Some.ensures.made in
    of_run (g.Q.Port.opening port) (g.Q.Port.pass port) (g.Q.Port.seen port) c.args.request c.args.tree.now u.0 (λ tree. IsMade (arc_value c.in-Ok-Some.made) tree c.args.path.now) u.1 made

pub returns-in-Ok-Some-clause-found : goal.returns-in-Ok-Some-clause-found
returns-in-Ok-Some-clause-found g c =
    let port = c.args.port.now in
    let acts = rw c.in-Ok-Some.field-0-is at c.in-Ok-Some.ensures.call in
    found_hit needs_at (g.Q.Port.opening port) (g.Q.Port.pass port) (g.Q.Port.seen port) (g.Q.Port.seen c.fetch.new.self) c.args.steps.now c.args.request c.args.tree.now c.args.path.now c.in-Ok-Some.made acts

pub returns-in-Ok-None-clause-found : goal.returns-in-Ok-None-clause-found
returns-in-Ok-None-clause-found g c =
    let port = c.args.port.now in
    let acts = rw c.in-Ok-None.field-0-is at c.in-Ok-None.ensures.call in
    found_missed needs_at (g.Q.Port.opening port) (g.Q.Port.pass port) (g.Q.Port.seen port) (g.Q.Port.seen c.fetch.new.self) (g.Q.Port.seen c.make.new.port) c.args.steps.now c.make.new.steps c.args.request c.args.tree.now c.args.path.now c.make.result acts
    (same_offers needs_at (g.Q.Port.opening port) (g.Q.Port.opening c.fetch.new.self) (g.Q.Port.pass port) (g.Q.Port.pass c.fetch.new.self) (g.Q.Port.seen c.fetch.new.self) (g.Q.Port.seen c.make.new.port) c.args.steps.now c.make.new.steps c.args.request c.args.tree.now c.args.path.now c.make.result
    c.fetch.ensures.same.1 c.fetch.ensures.same.0 c.make.ensures.offers)

pub returns-in-Err-clause-found : goal.returns-in-Err-clause-found
returns-in-Err-clause-found g c =
    let port = c.args.port.now in
    found_none needs_at (g.Q.Port.opening port) (g.Q.Port.pass port) (g.Q.Port.seen port) (g.Q.Port.seen c.fetch.new.self) c.args.steps.now c.args.request c.args.tree.now c.args.path.now _ c.in-Err.ensures.call
