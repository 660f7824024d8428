use Rattle.std.proofs.Common.{◌∙◌, refl}
use Rattle.unit_nodes.proofs.NodeLemmas.{action_is}
use Rattle.unit_build.proofs.nodes.action_node.Goals as goal

pub returns : goal.returns
returns c =
    action_is (record {
      kind = c.args.kind;
      attributes = c.args.attributes;
      has_body = c.has_body.result;
      body = c.args.body;
      source = c.in_ok-copy.field-0;
      place = c.in_ok-copy-2.field-0;
    })
    ∙ rw (c.requires, c.has_body.ensures, c.in_ok-copy.ensures, c.in_ok-copy-2.ensures) refl
