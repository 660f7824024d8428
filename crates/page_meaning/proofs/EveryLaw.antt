-- The laws of every part of a page.
use Rattle.std.proofs.Common.{refl}
use Rattle.page_meaning.specs.Laws.{StepsAndPiecesGrow, MoreAnswersGoOn, ForwardsLeaveFewer, HundredLevels}
use Rattle.page_meaning.specs.Meaning.{below}
use Rattle.page_meaning.specs.Respond.{level_limit}
use Rattle.page_meaning.proofs.EveryPart.{node_orderly, nodes_orderly, attributes_orderly, params_orderly, branches_orderly, below_orderly}
use Rattle.page_meaning.proofs.Values.{ev_orderly, ev_all_orderly, ev_pairs_orderly}

pub grow : StepsAndPiecesGrow
grow = record {
  expression = λ left served here place e s. (ev_orderly {left = left} served here place e s).grows;
  expressions = λ left served here place es s. (ev_all_orderly {left = left} served here place es s).grows;
  pairs = λ left served here place ps s. (ev_pairs_orderly {left = left} served here place ps s).grows;
  node = λ left served n here s. (node_orderly served (below served left) left (below_orderly served left) n here s).grows;
  nodes = λ left served ns here s. (nodes_orderly served (below served left) left (below_orderly served left) ns here s).grows;
  attributes = λ left served list here coercion s. (attributes_orderly served (below served left) left (below_orderly served left) list here coercion s).grows;
  params = λ left served ps here s. (params_orderly served (below served left) left (below_orderly served left) ps here s).grows;
  branches = λ left served bs here s. (branches_orderly served (below served left) left (below_orderly served left) bs here s).grows;
}

pub go_on : MoreAnswersGoOn
go_on = record {
  expression = λ left served here place e s. (ev_orderly {left = left} served here place e s).goes_on;
  expressions = λ left served here place es s. (ev_all_orderly {left = left} served here place es s).goes_on;
  pairs = λ left served here place ps s. (ev_pairs_orderly {left = left} served here place ps s).goes_on;
  node = λ left served n here s. (node_orderly served (below served left) left (below_orderly served left) n here s).goes_on;
  nodes = λ left served ns here s. (nodes_orderly served (below served left) left (below_orderly served left) ns here s).goes_on;
  attributes = λ left served list here coercion s. (attributes_orderly served (below served left) left (below_orderly served left) list here coercion s).goes_on;
  params = λ left served ps here s. (params_orderly served (below served left) left (below_orderly served left) ps here s).goes_on;
  branches = λ left served bs here s. (branches_orderly served (below served left) left (below_orderly served left) bs here s).goes_on;
}

pub leave_fewer : ForwardsLeaveFewer
leave_fewer = record {
  expression = λ left served here place e s. (ev_orderly {left = left} served here place e s).leaves;
  expressions = λ left served here place es s. (ev_all_orderly {left = left} served here place es s).leaves;
  pairs = λ left served here place ps s. (ev_pairs_orderly {left = left} served here place ps s).leaves;
  node = λ left served n here s. (node_orderly served (below served left) left (below_orderly served left) n here s).leaves;
  nodes = λ left served ns here s. (nodes_orderly served (below served left) left (below_orderly served left) ns here s).leaves;
  attributes = λ left served list here coercion s. (attributes_orderly served (below served left) left (below_orderly served left) list here coercion s).leaves;
  params = λ left served ps here s. (params_orderly served (below served left) left (below_orderly served left) ps here s).leaves;
  branches = λ left served bs here s. (branches_orderly served (below served left) left (below_orderly served left) bs here s).leaves;
}

pub hundred_levels : HundredLevels
unfolding level_limit
hundred_levels = record {
  levels = refl;
  one_less = λ served left. refl;
  none = λ served. refl;
  calls = λ place call entries here s. refl;
  includes = λ served place params path s. refl;
  forwards = λ served place params path s. refl;
  fragments = λ place nodes run call caller s. refl;
  bodies = λ place text run call caller s. refl;
}
