-- The children of an action and what stands in it, as the program holds them.
use Rattle.std.specs.Prelude.{◌≡◌, ℕ, List, Option, Some, None, option_map}
use Rattle.act_reader.specs.Before.{acts_before, attributes_before, params_before, branches_before}
use Rattle.act_reader.specs.declared.contents.Children.{Children as ChildrenMade}
use Rattle.act_reader.specs.declared.contents.Content.{Content as ContentMade}
use Rattle.act_reader.specs.declared.contents.Held.{Held as HeldMade}
use Rattle.page_acts.specs.Views.{acts_of, attributes_of, branches_of, params_of}
use Rattle.page_meaning.specs.Page as page
use Rattle.unit_meaning.specs.Shape.{Children, Content, Held}

abbrev pub content_view : ContentMade → Content
content_view made = record { nodes = acts_of made.acts.items; params = params_of made.params.items; branches = branches_of made.branches.items }

abbrev pub held_view : HeldMade → Held
held_view made = record { source = made.source.now; content = content_view made.content }

abbrev pub children_view : ChildrenMade → Children
children_view made = record { own = content_view made.own; given = attributes_of made.given.items; held = option_map held_view made.held }

-- what stands there, before what stands behind it
abbrev pub content_before : ContentMade → Content → Content
content_before made rest = record {
  nodes = acts_before made.acts.items rest.nodes;
  params = params_before made.params.items rest.params;
  branches = branches_before made.branches.items rest.branches;
}

-- a `jsp:body`, or another where there is none
abbrev pub first_held : Option Held → Option Held → Option Held
first_held (Some held) other = Some held
first_held None other = other

-- children before those that stand behind them
abbrev pub before : ChildrenMade → Children → Children
before made rest = record {
  own = content_before made.own rest.own;
  given = attributes_before made.given.items rest.given;
  held = first_held (option_map held_view made.held) rest.held;
}

-- what was read, then this, then whatever comes behind
abbrev pub Adds : (old new : ChildrenMade) → (Children → Children) → Type 0
Adds old new added = (rest : Children) → before new rest ≡ before old (added rest)

-- with an attribute that `jsp:attribute` gives before the others
abbrev pub with_given : (page.Attributes → page.Attributes) → Children → Children
with_given attribute rest = record rest { given = attribute rest.given }

-- with a `jsp:body` before the others
abbrev pub with_held : (source : List ℕ) → Content → Children → Children
with_held source content rest = record rest { held = Some (record { source = source; content = content }) }

-- with a param before the others
abbrev pub with_param : (page.Params → page.Params) → Children → Children
with_param made rest = record rest { own = record { nodes = rest.own.nodes; params = made rest.own.params; branches = rest.own.branches } }

-- with a branch before the others
abbrev pub with_branch : (page.Branches → page.Branches) → Children → Children
with_branch branch rest = record rest { own = record { nodes = rest.own.nodes; params = rest.own.params; branches = branch rest.own.branches } }
