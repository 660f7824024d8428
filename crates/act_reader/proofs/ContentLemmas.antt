-- The children of an action, as far as they were read, and those that stand behind them.
use Rattle.std.proofs.Common.{◌≡◌, ◌∙◌, true, false, not, refl, ap, Bool, ℕ, List, [], ◌∷◌, Option, Some, None, option_map, length, nat_eq, rules}
use Rattle.act_reader.specs.Contents.{Adds, before, children_view, content_before, content_view, first_held, held_view, with_held}
use Rattle.act_reader.specs.Before.{attributes_before}
use Rattle.act_reader.specs.declared.contents.Children.{Children as ChildrenMade}
use Rattle.act_reader.specs.declared.contents.Content.{Content as ContentMade}
use Rattle.act_reader.specs.declared.contents.Held.{Held as HeldMade}
use Rattle.act_reader.proofs.BeforeLemmas.{acts_alone, attributes_alone, branches_alone, params_alone}
use Rattle.page_acts.specs.Views.{attributes_of}
use Rattle.page_acts.specs.declared.acts.ActAttribute.{ActAttribute, Written, Given'}
use Rattle.page_meaning.specs.Page as page
use Rattle.unit_meaning.specs.Shape.{Children, Content, Held, has_attributes, no_children, no_content}

-- what stands in an action, by its parts
abbrev content : page.Nodes → page.Params → page.Branches → Content
content n p b = record { nodes = n; params = p; branches = b }

-- equal parts make equal contents
pub content_is : (n n' : page.Nodes) (p p' : page.Params) (b b' : page.Branches) → n ≡ n' → p ≡ p' → b ≡ b' → content n p b ≡ content n' p' b'
content_is n n' p p' b b' e f g = cc

-- children by their parts
abbrev children : Content → page.Attributes → Option Held → Children
children o g h = record { own = o; given = g; held = h }

-- equal parts make equal children
pub children_is : (o o' : Content) (g g' : page.Attributes) (h h' : Option Held) → o ≡ o' → g ≡ g' → h ≡ h' → children o g h ≡ children o' g' h'
children_is o o' g g' h h' e f i = cc

content_alone : (made : ContentMade) → content_before made no_content ≡ content_view made
content_alone made = content_is _ _ _ _ _ _ (acts_alone made.acts.items) (params_alone made.params.items) (branches_alone made.branches.items)

held_alone : (held : Option Held) → first_held held None ≡ held
held_alone (Some held) = refl
held_alone None = refl

-- nothing stands behind them
pub before_nothing : (made : ChildrenMade) → before made no_children ≡ children_view made
before_nothing made = children_is _ _ _ _ _ _ (content_alone made.own) (attributes_alone made.given.items) (held_alone (option_map held_view made.held))

-- an attribute stands there exactly where one was made
pub given_made : (made : List ActAttribute) → has_attributes (attributes_of made) ≡ not (nat_eq (length made) 0)
given_made [] = refl
given_made (Written name parts place ∷ rest) = search rules
given_made (Given' name trim s body place ∷ rest) = search rules
