-- What an action adds, by its role, and its act by its parts.
use Rattle.std.proofs.Common.{◌≡◌, ◌∙◌, ℕ, List, Bool, Option, Some, None, Result, OnOk, refl, ap, sym}
use Rattle.std.proofs.lemmas.Result.{on_ok_weaker}
use Rattle.act_reader.specs.Contents.{Adds, before}
use Rattle.act_reader.specs.declared.contents.Children.{Children as ChildrenMade}
use Rattle.act_reader.specs.Parts.{Parts, parts_in}
use Rattle.act_reader.specs.Roles.{role_of, with_nothing, with_role}
use Rattle.jstl_tags.specs.declared.core_name.CoreName.{CoreName}
use Rattle.jstl_tags.specs.declared.core_name.CoreName.TheVariants as core
use Rattle.page_meaning.specs.Page as page
use Rattle.unit_meaning.specs.Shape.{Children, action_node, attributes_of, content_in, core_node, jsp_node, with_action, with_node}
use Rattle.pg_text.specs.declared.place.Place.{Place}
use Rattle.unit_nodes.specs.Nodes as unit
use Rattle.unit_nodes.specs.Nodes.{ActionKind, Given}
use Rattle.unit_nodes.specs.declared.jsp_name.JspName.{JspName}
use Rattle.unit_nodes.specs.declared.jsp_name.JspName.TheVariants as jsp

-- what an action adds is what its role says
pub by_role : (k : ActionKind) (attributes : List Given) (has_body : Bool) (source : List ℕ) (place : Place) (inner rest : Children)
    → with_role (role_of k) (action_node k attributes has_body source inner place) attributes source (parts_in k attributes inner) place rest ≡ with_action k attributes has_body source place inner rest
by_role (unit.standard jsp.Include) attributes has_body source place inner rest = refl
by_role (unit.standard jsp.Forward) attributes has_body source place inner rest = refl
by_role (unit.standard jsp.Param) attributes has_body source place inner rest = refl
by_role (unit.standard jsp.UseBean) attributes has_body source place inner rest = refl
by_role (unit.standard jsp.GetProperty) attributes has_body source place inner rest = refl
by_role (unit.standard jsp.SetProperty) attributes has_body source place inner rest = refl
by_role (unit.standard jsp.Attribute) attributes has_body source place inner rest = refl
by_role (unit.standard jsp.Body) attributes has_body source place inner rest = refl
by_role (unit.standard jsp.Text) attributes has_body source place inner rest = refl
by_role (unit.standard jsp.DoBody) attributes has_body source place inner rest = refl
by_role (unit.standard jsp.Invoke) attributes has_body source place inner rest = refl
by_role (unit.core core.Out) attributes has_body source place inner rest = refl
by_role (unit.core core.Set) attributes has_body source place inner rest = refl
by_role (unit.core core.Remove) attributes has_body source place inner rest = refl
by_role (unit.core core.Catch) attributes has_body source place inner rest = refl
by_role (unit.core core.If) attributes has_body source place inner rest = refl
by_role (unit.core core.Choose) attributes has_body source place inner rest = refl
by_role (unit.core core.When) attributes has_body source place inner rest = refl
by_role (unit.core core.Otherwise) attributes has_body source place inner rest = refl
by_role (unit.core core.ForEach) attributes has_body source place inner rest = refl
by_role (unit.core core.ForTokens) attributes has_body source place inner rest = refl
by_role (unit.core core.Import) attributes has_body source place inner rest = refl
by_role (unit.core core.Url) attributes has_body source place inner rest = refl
by_role (unit.core core.Redirect) attributes has_body source place inner rest = refl
by_role (unit.core core.Param) attributes has_body source place inner rest = refl
by_role (unit.call path) attributes has_body source place inner rest = refl

-- the act of a core tag
pub own_core : (n : CoreName) (k : ActionKind) (attributes : List Given) (has_body : Bool) (source : List ℕ) (parts : Parts) (c : Children) (place : Place)
    → k ≡ unit.core n → parts ≡ parts_in k attributes c → core_node n attributes parts.attributes parts.content place ≡ action_node k attributes has_body source c place
own_core n k attributes has_body source parts c place is made =
    ap (λ p. core_node n attributes p.attributes p.content place) made
    ∙ ap (λ x. core_node n attributes (attributes_of x attributes c) (content_in c) place) is
    ∙ ap (λ x. action_node x attributes has_body source c place) (sym is)

-- the act of a standard action
pub own_jsp : (n : JspName) (k : ActionKind) (attributes : List Given) (has_body : Bool) (source : List ℕ) (parts : Parts) (c : Children) (place : Place)
    → k ≡ unit.standard n → parts ≡ parts_in k attributes c → jsp_node n attributes parts.attributes parts.content place ≡ action_node k attributes has_body source c place
own_jsp n k attributes has_body source parts c place is made =
    ap (λ p. jsp_node n attributes p.attributes p.content place) made
    ∙ ap (λ x. jsp_node n attributes (attributes_of x attributes c) (content_in c) place) is
    ∙ ap (λ x. action_node x attributes has_body source c place) (sym is)

-- a group of none, and then what an action adds
pub nothing_before : (old new end : ChildrenMade) (act : page.Node) (place : Place) (added wanted : Children → Children) → act ≡ page.group page.no_nodes place → Adds old new (with_node act)
    → ((rest : Children) → added rest ≡ wanted rest) → Adds new end added → Adds old end (with_nothing place wanted)
nothing_before old new end act place added wanted is first same then rest =
    then rest ∙ ap (before new) (same rest) ∙ first (wanted rest) ∙ ap (λ node. before old (with_node node (wanted rest))) is

pub nothing_then : {R E : Type 0} (r : Result R E) (old new end : ChildrenMade) (act : page.Node) (place : Place) (added wanted : Children → Children) → act ≡ page.group page.no_nodes place
    → Adds old new (with_node act) → ((rest : Children) → added rest ≡ wanted rest) → OnOk r (Adds new end added) → OnOk r (Adds old end (with_nothing place wanted))
nothing_then r old new end act place added wanted is first same then = on_ok_weaker r (nothing_before old new end act place added wanted is first same) then
