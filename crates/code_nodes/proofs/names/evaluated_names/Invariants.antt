use Rattle.std.proofs.Common.{◌≡◌, ◌++◌, drop}
use Rattle.code_actions.specs.Evaluations.{coercions}
use Rattle.page_acts.specs.Views.{attributes_of}
use Rattle.page_meaning.specs.Attributes.{evaluated_names}
use Rattle.code_nodes.proofs.names.evaluated_names.Given as goal

abbrev pub invariant-loop-attribute : goal.invariant-loop-attribute
invariant-loop-attribute l =
    l.names ++ evaluated_names (coercions l.evaluations) (attributes_of (drop l.attribute-index l.list)) ≡ evaluated_names (coercions l.evaluations) (attributes_of l.list)
