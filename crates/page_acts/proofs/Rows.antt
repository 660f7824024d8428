-- The acts, attributes, params and branches of an act, as they stand in memory and as a list.
use Rattle.std.proofs.Common.{◌≡◌, refl, ap, rules}
use mathlib.Core.Former.{Count}
use Rattle.unit_meaning.specs.Page.{more_nodes}
use Rattle.page_acts.specs.Views.{act_of, acts_of, acts_row, attribute_before, attributes_of, attributes_row, branch_before, branches_of, branches_row, params_of, params_row}
use Rattle.page_acts.specs.declared.acts.Act.{Row_of-Act, end_of-Act, more_of-Act, items-the_row-Act, Row_of-ActAttribute, end_of-ActAttribute, more_of-ActAttribute, items-the_row-ActAttribute, Row_of-ActParam, end_of-ActParam, more_of-ActParam, items-the_row-ActParam, Row_of-ActBranch, end_of-ActBranch, more_of-ActBranch, items-the_row-ActBranch}
use Rattle.page_acts.specs.declared.acts.Act.TheViews.{the_lemmas}

pub acts_row_is : (n : Count) (row : Row_of-Act n) → acts_row row ≡ acts_of (items-the_row-Act n row)
acts_row_is _ end_of-Act = refl
acts_row_is _ (more_of-Act act rest) = ap (more_nodes (act_of act)) (acts_row_is _ rest)

pub attributes_row_is : (n : Count) (row : Row_of-ActAttribute n) → attributes_row row ≡ attributes_of (items-the_row-ActAttribute n row)
attributes_row_is _ end_of-ActAttribute = refl
attributes_row_is _ (more_of-ActAttribute attribute rest) = ap (attribute_before attribute) (attributes_row_is _ rest)

pub params_row_is : (n : Count) (row : Row_of-ActParam n) → params_row row ≡ params_of (items-the_row-ActParam n row)
params_row_is _ end_of-ActParam = refl
params_row_is _ (more_of-ActParam s attributes t body place rest) = search (rules, the_lemmas, acts_row_is, attributes_row_is, params_row_is _ rest)

pub branches_row_is : (n : Count) (row : Row_of-ActBranch n) → branches_row row ≡ branches_of (items-the_row-ActBranch n row)
branches_row_is _ end_of-ActBranch = refl
branches_row_is _ (more_of-ActBranch branch rest) = ap (branch_before branch) (branches_row_is _ rest)

-- what the fields of an act, an attribute, a param, a branch and a body come to
pub ruleset rows = (the_lemmas, acts_row_is, attributes_row_is, params_row_is, branches_row_is)
