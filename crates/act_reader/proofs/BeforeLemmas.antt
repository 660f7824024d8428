-- One more act, attribute, param or branch at the end, and none behind them.
use Rattle.std.proofs.Common.{◌≡◌, List, [], ◌∷◌, ◌++◌, refl, ap}
use Rattle.act_reader.specs.Before.{acts_before, attributes_before, branches_before, params_before}
use Rattle.page_acts.specs.Views.{act_of, acts_of, attribute_before, attributes_of, branch_before, branches_of, param_before, params_of}
use Rattle.page_acts.specs.declared.acts.Act.{Act}
use Rattle.page_acts.specs.declared.acts.ActAttribute.{ActAttribute}
use Rattle.page_acts.specs.declared.acts.ActBranch.{ActBranch}
use Rattle.page_acts.specs.declared.acts.ActParam.{ActParam}
use Rattle.page_meaning.specs.Page as page

pub acts_push : (made : List Act) (act : Act) (others : page.Nodes) → acts_before (made ++ act ∷ []) others ≡ acts_before made (page.more_nodes (act_of act) others)
acts_push [] act others = refl
acts_push (first ∷ made) act others = ap (page.more_nodes (act_of first)) (acts_push made act others)

pub attributes_push : (made : List ActAttribute) (attribute : ActAttribute) (others : page.Attributes)
    → attributes_before (made ++ attribute ∷ []) others ≡ attributes_before made (attribute_before attribute others)
attributes_push [] attribute others = refl
attributes_push (first ∷ made) attribute others = ap (attribute_before first) (attributes_push made attribute others)

pub params_push : (made : List ActParam) (param : ActParam) (others : page.Params) → params_before (made ++ param ∷ []) others ≡ params_before made (param_before param others)
params_push [] param others = refl
params_push (first ∷ made) param others = ap (param_before first) (params_push made param others)

pub branches_push : (made : List ActBranch) (branch : ActBranch) (others : page.Branches)
    → branches_before (made ++ branch ∷ []) others ≡ branches_before made (branch_before branch others)
branches_push [] branch others = refl
branches_push (first ∷ made) branch others = ap (branch_before first) (branches_push made branch others)

pub acts_alone : (made : List Act) → acts_before made page.no_nodes ≡ acts_of made
acts_alone [] = refl
acts_alone (first ∷ made) = ap (page.more_nodes (act_of first)) (acts_alone made)

pub attributes_alone : (made : List ActAttribute) → attributes_before made page.no_attributes ≡ attributes_of made
attributes_alone [] = refl
attributes_alone (first ∷ made) = ap (attribute_before first) (attributes_alone made)

pub params_alone : (made : List ActParam) → params_before made page.no_params ≡ params_of made
params_alone [] = refl
params_alone (first ∷ made) = ap (param_before first) (params_alone made)

pub branches_alone : (made : List ActBranch) → branches_before made page.no_branches ≡ branches_of made
branches_alone [] = refl
branches_alone (first ∷ made) = ap (branch_before first) (branches_alone made)

-- attributes, and then others
pub attributes_joined : (made others : List ActAttribute) → attributes_of (made ++ others) ≡ attributes_before made (attributes_of others)
attributes_joined [] others = refl
attributes_joined (first ∷ made) others = ap (attribute_before first) (attributes_joined made others)
