-- Acts, attributes, params and branches before others.
use Rattle.std.specs.Prelude.{List, [], ◌∷◌}
use Rattle.page_acts.specs.Views.{act_of, attribute_before, branch_before, param_before}
use Rattle.page_acts.specs.declared.acts.Act.{Act}
use Rattle.page_acts.specs.declared.acts.ActAttribute.{ActAttribute}
use Rattle.page_acts.specs.declared.acts.ActBranch.{ActBranch}
use Rattle.page_acts.specs.declared.acts.ActParam.{ActParam}
use Rattle.page_meaning.specs.Page as page

-- acts before other nodes
abbrev pub acts_before : List Act → page.Nodes → page.Nodes
acts_before [] others = others
acts_before (act ∷ acts) others = page.more_nodes (act_of act) (acts_before acts others)

abbrev pub attributes_before : List ActAttribute → page.Attributes → page.Attributes
attributes_before [] others = others
attributes_before (attribute ∷ attributes) others = attribute_before attribute (attributes_before attributes others)

abbrev pub params_before : List ActParam → page.Params → page.Params
params_before [] others = others
params_before (made ∷ params) others = param_before made (params_before params others)

abbrev pub branches_before : List ActBranch → page.Branches → page.Branches
branches_before [] others = others
branches_before (branch ∷ branches) others = branch_before branch (branches_before branches others)
