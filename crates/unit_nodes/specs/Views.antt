-- What the unit of the program is, as nodes and pages without where they lie in memory.
use Rattle.std.specs.Prelude.{List, [], ◌∷◌, map, Result, Ok, Err}
use Rattle.pg_text.specs.declared.place.PageFault.{PageFault}
use Rattle.el_reader.specs.El.{tree_of}
use Rattle.unit_nodes.specs.declared.unit.ActionKind.{ActionKind as Kind}
use Rattle.unit_nodes.specs.declared.unit.ActionKind.TheVariants as kind
use Rattle.unit_nodes.specs.declared.unit.Page.{Page as PageMade}
use Rattle.unit_nodes.specs.declared.unit.TagFile.{TagFile as TagFileMade}
use Rattle.unit_nodes.specs.declared.unit.UnitAttribute.{UnitAttribute}
use Rattle.unit_nodes.specs.declared.unit.UnitBody.{UnitBody}
use Rattle.unit_nodes.specs.declared.unit.UnitBody.TheVariants.{Good, Bad}
use Rattle.unit_nodes.specs.declared.unit.UnitNode.{UnitNode, Text, Expr, Action', Row_of-UnitNode, end_of-UnitNode, more_of-UnitNode}
use Rattle.unit_nodes.specs.declared.unit.UnitPart.{UnitPart}
use Rattle.unit_nodes.specs.declared.unit.UnitPart.TheVariants as part
use Rattle.unit_nodes.specs.Nodes.{Part, words, expression, Given, ActionKind, standard, core, call, Nodes, done, template, shown, action, joined, Page, TagFile}

abbrev pub part_of : UnitPart → Part
part_of (part.Text t) = words t
part_of (part.Expr e) = expression (tree_of e)

abbrev pub given_of : UnitAttribute → Given
given_of a = record { name = a.name; parts = map part_of a.parts; place = a.place }

abbrev pub kind_of : Kind → ActionKind
kind_of (kind.Jsp name) = standard name
kind_of (kind.Core name) = core name
kind_of (kind.Tag path) = call path

abbrev mutual
  -- what a node is
  pub node_of : UnitNode → Nodes
  node_of (Text t place) = template t place done
  node_of (Expr e place) = shown (tree_of e) place done
  node_of (Action' k attributes has_body shape body source place) =
      action (record { kind = kind_of k; attributes = map given_of attributes; has_body = has_body; source = source; place = place }) (row_of body) done

  pub row_of : {m : _} → Row_of-UnitNode m → Nodes
  row_of end_of-UnitNode = done
  row_of (more_of-UnitNode node rest) = joined (node_of node) (row_of rest)

-- nodes, one after the other
abbrev pub nodes_of : List UnitNode → Nodes
nodes_of [] = done
nodes_of (node ∷ nodes) = joined (node_of node) (nodes_of nodes)

abbrev pub tag_view : TagFileMade → TagFile
tag_view tag = record { path = tag.path; decl = tag.decl; settings = tag.settings; nodes = nodes_of tag.nodes.items }

abbrev pub page_view : PageMade → Page
page_view page = record { path = page.path; nodes = nodes_of page.nodes.items; settings = page.settings; tags = map tag_view page.tags.items; beans = page.beans }

abbrev pub body_view : UnitBody → Result Page PageFault
body_view (Good page) = Ok (page_view page)
body_view (Bad fault) = Err fault
