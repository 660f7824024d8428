use denote.Param.Weighed.{most}
use Rattle.std.proofs.Common.{◌≡◌, ◌+◌, ◌*◌, ◌++◌, drop, max}
use Rattle.code_actions.specs.Choosing.{before}
use Rattle.code_actions.specs.Evaluations.{coercions}
use Rattle.page_acts.specs.Views.{acts_of, attributes_of, branches_of, params_of}
use Rattle.page_acts.specs.declared.acts.Act.{size-Act}
use Rattle.page_acts.specs.declared.acts.ActParam.{size-ActParam}
use Rattle.page_acts.specs.declared.acts.CallBody.{size-CallBody}
use Rattle.code_forms.specs.Codes.{form_code}
use Rattle.code_lowering.specs.Lowering.{attributes_form, branches_form, fragments_form, nodes_form, params_form}
use Rattle.unit_meaning.specs.Shape.{page_of}
use Rattle.unit_nodes.specs.Views.{page_view}
use Rattle.code_nodes.specs.Calls.{with_fragments}
use Rattle.code_nodes.proofs.+nodes.Given as goal

-- the code so far, and that of what is left, are that of the whole
abbrev pub invariant-tree::nodes-loop-act : goal.invariant-tree::nodes-loop-act
invariant-tree::nodes-loop-act l =
    l.code ++ form_code l.ground (nodes_form (page_of (page_view l.page)) (acts_of (drop l.act-index l.acts))) ≡ form_code l.ground (nodes_form (page_of (page_view l.page)) (acts_of l.acts))

abbrev pub invariant-attributes::values-loop-attribute : goal.invariant-attributes::values-loop-attribute
invariant-attributes::values-loop-attribute l =
    l.code ++ form_code l.above (attributes_form (page_of (page_view l.page)) (attributes_of (drop l.attribute-index l.list)) (coercions l.evaluations))
    ≡ form_code l.ground (attributes_form (page_of (page_view l.page)) (attributes_of l.list) (coercions l.evaluations))

abbrev pub invariant-params::params-loop-made : goal.invariant-params::params-loop-made
invariant-params::params-loop-made l =
    l.code ++ form_code l.above (params_form (page_of (page_view l.page)) (params_of (drop l.made-index l.list))) ≡ form_code l.ground (params_form (page_of (page_view l.page)) (params_of l.list))

-- the branches so far, before what is left, are the whole
abbrev pub invariant-choices::branches-loop-branch : goal.invariant-choices::branches-loop-branch
invariant-choices::branches-loop-branch l =
    before l.ground l.whens.items (form_code l.ground (branches_form (page_of (page_view l.page)) (branches_of (drop l.branch-index l.branches))))
    ≡ form_code l.ground (branches_form (page_of (page_view l.page)) (branches_of l.branches))

abbrev pub invariant-calls::with_fragments-loop-attribute : goal.invariant-calls::with_fragments-loop-attribute
invariant-calls::with_fragments-loop-attribute l =
    with_fragments l.down (fragments_form (page_of (page_view l.page)) (attributes_of (drop l.attribute-index l.attributes)) l.decl)
    ≡ with_fragments l.fn.down (fragments_form (page_of (page_view l.page)) (attributes_of l.attributes) l.decl)

-- each part is less deep than the whole

abbrev pub decreases-tree::node : goal.decreases-tree::node
decreases-tree::node l = 8 * goal.size-tree::node l

abbrev pub decreases-tree::visited : goal.decreases-tree::visited
decreases-tree::visited l = 8 * goal.size-tree::visited l + 1

abbrev pub decreases-tree::nodes : goal.decreases-tree::nodes
decreases-tree::nodes l = 8 * goal.size-tree::nodes l + 2

abbrev pub decreases-attributes::value : goal.decreases-attributes::value
decreases-attributes::value l = 8 * goal.size-attributes::value l + 3

abbrev pub decreases-attributes::values : goal.decreases-attributes::values
decreases-attributes::values l = 8 * goal.size-attributes::values l + 4

abbrev pub decreases-attributes::visited_values : goal.decreases-attributes::visited_values
decreases-attributes::visited_values l = 8 * goal.size-attributes::visited_values l + 5

abbrev pub decreases-params::name_and_value : goal.decreases-params::name_and_value
decreases-params::name_and_value l = 8 * goal.size-params::name_and_value l

abbrev pub decreases-params::param : goal.decreases-params::param
decreases-params::param l = 8 * goal.size-params::param l + 1

abbrev pub decreases-params::params : goal.decreases-params::params
decreases-params::params l = 8 * goal.size-params::params l + 3

abbrev pub decreases-choices::otherwise : goal.decreases-choices::otherwise
decreases-choices::otherwise l = 8 * goal.size-choices::otherwise l + 3

abbrev pub decreases-choices::branches : goal.decreases-choices::branches
decreases-choices::branches l = 8 * goal.size-choices::branches l + 3

abbrev pub decreases-calls::whole : goal.decreases-calls::whole
decreases-calls::whole l = 8 * goal.size-calls::whole l + 3

abbrev pub decreases-calls::handed : goal.decreases-calls::handed
decreases-calls::handed l = 8 * goal.size-calls::handed l + 4

abbrev pub decreases-calls::add_fragment : goal.decreases-calls::add_fragment
decreases-calls::add_fragment l = 8 * goal.size-calls::add_fragment l + 4

abbrev pub decreases-calls::with_fragments : goal.decreases-calls::with_fragments
decreases-calls::with_fragments l = 8 * goal.size-calls::with_fragments l + 5

abbrev pub decreases-actions::properties : goal.decreases-actions::properties
decreases-actions::properties l = 8 * goal.size-actions::properties l + 5

abbrev pub decreases-actions::around : goal.decreases-actions::around
decreases-actions::around l = 8 * max (goal.size-actions::around l) (most (λ act. size-Act act) l.body.now) + 5

abbrev pub decreases-actions::enclosed : goal.decreases-actions::enclosed
decreases-actions::enclosed l = 8 * max (goal.size-actions::enclosed l) (most (λ act. size-Act act) l.body.now) + 6

abbrev pub decreases-actions::on_address : goal.decreases-actions::on_address
decreases-actions::on_address l = 8 * max (goal.size-actions::on_address l) (most (λ made. size-ActParam made) l.list.now) + 5

abbrev pub decreases-actions::addressed : goal.decreases-actions::addressed
decreases-actions::addressed l = 8 * max (goal.size-actions::addressed l) (most (λ made. size-ActParam made) l.list.now) + 6

abbrev pub decreases-choices::when : goal.decreases-choices::when
decreases-choices::when l = 8 * max (goal.size-choices::when l) (most (λ act. size-Act act) l.body.now) + 6

abbrev pub decreases-calls::call : goal.decreases-calls::call
decreases-calls::call l = 8 * max (goal.size-calls::call l) (size-CallBody l.body.now) + 6
