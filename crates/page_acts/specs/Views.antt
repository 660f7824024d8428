-- What the acts of the program are, as nodes without where they lie in memory.
use Rattle.std.specs.Prelude.{List, [], ◌∷◌, map, option_map}
use Rattle.el_reader.specs.El.{tree_of}
use Rattle.page_acts.specs.declared.acts.Act.{Act, Template, Shown, Enclosed', Addressed', Remove, Catch', Choose', UseBean', GetProperty, SetProperty', Group', DoBody, Invoke, Call', Row_of-Act, end_of-Act, more_of-Act, Row_of-ActAttribute, end_of-ActAttribute, more_of-ActAttribute, Row_of-ActParam, end_of-ActParam, more_of-ActParam, Row_of-ActBranch, end_of-ActBranch, more_of-ActBranch}
use Rattle.page_acts.specs.declared.acts.ActAttribute.{ActAttribute, Written, Given'}
use Rattle.page_acts.specs.declared.acts.ActBranch.{ActBranch, When', Otherwise'}
use Rattle.page_acts.specs.declared.acts.ActParam.{ActParam}
use Rattle.page_acts.specs.declared.acts.CallBody.{CallBody, Absent}
use Rattle.page_acts.specs.declared.acts.CallBody as call_body
use Rattle.page_acts.specs.declared.addressing.Addressing.{Addressing}
use Rattle.page_acts.specs.declared.addressing.Addressing.TheVariants as addressing
use Rattle.page_acts.specs.declared.enclosing.Enclosing.{Enclosing}
use Rattle.page_acts.specs.declared.enclosing.Enclosing.TheVariants as enclosing
use Rattle.page_acts.specs.declared.named.Property.{Property as PropertyMade}
use Rattle.page_acts.specs.declared.named.Property.TheVariants.{Every, One}
use Rattle.page_acts.specs.declared.named.Variable.{Variable as VariableMade}
use Rattle.unit_meaning.specs.Page.{Variable, Property, every, one, Node, template, shown, out, set, set_entry, remove, catch, when_true, choose, each, each_token, import, url, redirect, include, forward, use_bean, get_property, set_property, group, do_body, invoke, call, Nodes, no_nodes, more_nodes, Attributes, no_attributes, written, given, Params, no_params, param, Branches, no_branches, when, otherwise, Body, no_body, given_body}
use Rattle.pg_text.specs.declared.place.Place.{Place}
use Rattle.unit_meaning.specs.Named.{part_of}
use Rattle.unit_nodes.specs.Views.{part_of as part_view}

abbrev pub variable_of : VariableMade → Variable
variable_of v = record { name = v.name; scope = v.scope }

abbrev pub property_of : PropertyMade → Property
property_of Every = every
property_of (One property parameter) = one property parameter

-- what an action around a body is
abbrev pub enclosing_node : Enclosing → Attributes → Nodes → Place → Node
enclosing_node enclosing.Out list body place = out list body place
enclosing_node (enclosing.Set variable) list body place = set (variable_of variable) list body place
enclosing_node (enclosing.SetEntry target) list body place = set_entry target list body place
enclosing_node (enclosing.If variable) list body place = when_true (option_map variable_of variable) list body place
enclosing_node (enclosing.ForEach variable status) list body place = each variable status list body place
enclosing_node (enclosing.ForTokens variable status) list body place = each_token variable status list body place

-- what an action on an address is
abbrev pub addressing_node : Addressing → Attributes → Params → Place → Node
addressing_node (addressing.Import variable) list params place = import (option_map variable_of variable) list params place
addressing_node (addressing.Url variable) list params place = url (option_map variable_of variable) list params place
addressing_node addressing.Redirect list params place = redirect list params place
addressing_node (addressing.Include flush) list params place = include flush list params place
addressing_node addressing.Forward list params place = forward list params place

abbrev mutual
  -- what an act is
  pub act_of : Act → Node
  act_of (Template text place) = template text.now place.now
  act_of (Shown el place) = shown (tree_of el.now) place.now
  act_of (Enclosed' action s attributes t body place) = enclosing_node action (attributes_row attributes) (acts_row body) place.now
  act_of (Addressed' action s attributes t params place) = addressing_node action (attributes_row attributes) (params_row params) place.now
  act_of (Remove variable place) = remove (variable_of variable) place.now
  act_of (Catch' variable s body place) = catch variable (acts_row body) place.now
  act_of (Choose' s branches place) = choose (branches_row branches) place.now
  act_of (UseBean' name scope class s body place) = use_bean name scope class (acts_row body) place.now
  act_of (GetProperty name property place) = get_property name property place.now
  act_of (SetProperty' name property s attributes place) = set_property name (property_of property) (attributes_row attributes) place.now
  act_of (Group' s body place) = group (acts_row body) place.now
  act_of (DoBody variable place) = do_body (option_map variable_of variable) place.now
  act_of (Invoke fragment variable place) = invoke fragment (option_map variable_of variable) place.now
  act_of (Call' path s attributes body place) = call path.now (attributes_row attributes) (body_of body) place.now

  -- acts as they stand in memory
  pub acts_row : {m : _} → Row_of-Act m → Nodes
  acts_row end_of-Act = no_nodes
  acts_row (more_of-Act act rest) = more_nodes (act_of act) (acts_row rest)

  -- an attribute before others
  pub attribute_before : ActAttribute → Attributes → Attributes
  attribute_before (Written name parts place) others = written name.now (map part_of (map part_view parts.now)) place.now others
  attribute_before (Given' name trim s body place) others = given name trim (acts_row body) place.now others

  pub attributes_row : {m : _} → Row_of-ActAttribute m → Attributes
  attributes_row end_of-ActAttribute = no_attributes
  attributes_row (more_of-ActAttribute attribute rest) = attribute_before attribute (attributes_row rest)

  pub params_row : {m : _} → Row_of-ActParam m → Params
  params_row end_of-ActParam = no_params
  params_row (more_of-ActParam s attributes t body place rest) = param (attributes_row attributes) (acts_row body) place.now (params_row rest)

  -- a branch before others
  pub branch_before : ActBranch → Branches → Branches
  branch_before (When' s attributes t body place) others = when (attributes_row attributes) (acts_row body) place.now others
  branch_before (Otherwise' s body place) others = otherwise (acts_row body) place.now others

  pub branches_row : {m : _} → Row_of-ActBranch m → Branches
  branches_row end_of-ActBranch = no_branches
  branches_row (more_of-ActBranch branch rest) = branch_before branch (branches_row rest)

  -- the body of a call
  pub body_of : CallBody → Body
  body_of Absent = no_body
  body_of (call_body.Given' source s body) = given_body source.now (acts_row body)

-- acts in order
abbrev pub acts_of : List Act → Nodes
acts_of [] = no_nodes
acts_of (act ∷ rest) = more_nodes (act_of act) (acts_of rest)

abbrev pub attributes_of : List ActAttribute → Attributes
attributes_of [] = no_attributes
attributes_of (attribute ∷ rest) = attribute_before attribute (attributes_of rest)

-- a param before others
abbrev pub param_before : ActParam → Params → Params
param_before made others = param (attributes_of made.attributes.items) (acts_of made.body.items) made.place.now others

abbrev pub params_of : List ActParam → Params
params_of [] = no_params
params_of (made ∷ rest) = param_before made (params_of rest)

abbrev pub branches_of : List ActBranch → Branches
branches_of [] = no_branches
branches_of (branch ∷ rest) = branch_before branch (branches_of rest)
