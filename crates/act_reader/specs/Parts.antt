-- What the act of an action is made of.
use Rattle.std.specs.Prelude.{List}
use Rattle.act_reader.specs.declared.parts.Parts.{Parts as PartsMade}
use Rattle.page_acts.specs.Views.{acts_of, attributes_of as attributes_made, branches_of, params_of}
use Rattle.page_meaning.specs.Page as page
use Rattle.unit_meaning.specs.Shape.{Children, Content, attributes_of, content_in}
use Rattle.unit_nodes.specs.Nodes.{ActionKind, Given}

-- all attributes of an action, and what stands in it
pub record Parts : Type 0 where
  pub attributes : page.Attributes
  pub content : Content

-- the parts of an action with these children
abbrev pub parts_in : ActionKind → List Given → Children → Parts
parts_in kind attributes c = record { attributes = attributes_of kind attributes c; content = content_in c }

abbrev pub parts_view : PartsMade → Parts
parts_view made = record {
  attributes = attributes_made made.attributes.items;
  content = record { nodes = acts_of made.body.items; params = params_of made.params.items; branches = branches_of made.branches.items };
}
