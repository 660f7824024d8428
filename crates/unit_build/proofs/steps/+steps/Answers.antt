use Rattle.std.proofs.Common.{◌≡◌, ◌<◌, ◌∙◌, ◌++◌, OnOk, ap, arith, length, map, subst, sym}
use Rattle.jstl_tags.specs.Elements.{opened_of}
use Rattle.unit_source.specs.InPlace.{InPlace, done, element, included}
use Rattle.unit_source.specs.Placed.{in_place, node_in_place}
use Rattle.unit_words.specs.Walk.{behind_all}
use Rattle.unit_judges.specs.Made.{here_made}
use Rattle.unit_build.specs.MadeSteps.{step_made}
use Rattle.unit_build.specs.ReadSteps.{steps_of}
use Rattle.unit_judges.proofs.PlacedLemmas.{placed_element, placed_include}
use Rattle.unit_build.proofs.StepLemmas.{next_here, next_steps}
use Rattle.unit_build.proofs.steps.+steps.Goals as goal

pub push_node-returns-in-Element-clause-steps : goal.push_node-returns-in-Element-clause-steps
push_node-returns-in-Element-clause-steps t c =
    let e = c.in-Element.element in
    let is : node_in_place c.args.node.now ≡ element (opened_of e.head) (in_place e.body.items) done = ap node_in_place c.in-Element.is ∙ placed_element e in
    let P : InPlace → Type 0 = λ n. OnOk c.push_element.result (map step_made c.push_element.new.steps.items ≡ map step_made c.args.steps.now.items ++ steps_of c.args.directives.now (here_made c.args.here.now) n) in
    subst P (sym is) c.push_element.ensures.steps

pub push_node-returns-in-Included-clause-here : goal.push_node-returns-in-Included-clause-here
push_node-returns-in-Included-clause-here t c =
    let i = c.in-Included.include in
    let is : node_in_place c.args.node.now ≡ included i.directive i.entry (in_place i.body.items) done = ap node_in_place c.in-Included.is ∙ placed_include i in
    let P : InPlace → Type 0 = λ n. OnOk c.push_include.result (here_made c.push_include.new.here ≡ behind_all c.args.directives.now n (here_made c.args.here.now)) in
    subst P (sym is) c.push_include.ensures.here

pub push_node-returns-in-Included-clause-steps : goal.push_node-returns-in-Included-clause-steps
push_node-returns-in-Included-clause-steps t c =
    let i = c.in-Included.include in
    let is : node_in_place c.args.node.now ≡ included i.directive i.entry (in_place i.body.items) done = ap node_in_place c.in-Included.is ∙ placed_include i in
    let P : InPlace → Type 0 = λ n. OnOk c.push_include.result (map step_made c.push_include.new.steps.items ≡ map step_made c.args.steps.now.items ++ steps_of c.args.directives.now (here_made c.args.here.now) n) in
    subst P (sym is) c.push_include.ensures.steps

pub push_steps-loop-node-preserved : goal.push_steps-loop-node-preserved
push_steps-loop-node-preserved t c =
    let directives = c.args.directives.now in
    let nodes = c.args.nodes.now in
    let i = c.loop-node.node-index in
    let node = c.node-item.result in
    let here = here_made c.loop-node.here in
    let behind = here_made c.push_node.new.here in
    let within : i < length nodes = grind arith in
    record {
      here = next_here directives nodes i node here behind _ within c.node-item.is c.loop-node.invariant.here c.in_ok-push_node.ensures.here;
      steps = next_steps directives nodes i node here behind (map step_made c.loop-node.steps.items) (map step_made c.push_node.new.steps.items) _ within c.node-item.is
          c.loop-node.invariant.steps c.in_ok-push_node.ensures.here c.in_ok-push_node.ensures.steps;
    }
