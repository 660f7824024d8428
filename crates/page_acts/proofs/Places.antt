-- The places of actions around a body and on an address.
use Rattle.std.proofs.Common.{◌≡◌, refl}
use Rattle.page_acts.specs.Views.{addressing_node, enclosing_node}
use Rattle.page_acts.specs.declared.addressing.Addressing.{Addressing}
use Rattle.page_acts.specs.declared.addressing.Addressing.TheVariants as addressing
use Rattle.page_acts.specs.declared.enclosing.Enclosing.{Enclosing}
use Rattle.page_acts.specs.declared.enclosing.Enclosing.TheVariants as enclosing
use Rattle.unit_meaning.specs.Page.{Attributes, Nodes, Params, place_of}
use Rattle.pg_text.specs.declared.place.Place.{Place}

pub enclosing_place : (a : Enclosing) (list : Attributes) (body : Nodes) (place : Place) → place_of (enclosing_node a list body place) ≡ place
enclosing_place enclosing.Out list body place = refl
enclosing_place (enclosing.Set variable) list body place = refl
enclosing_place (enclosing.SetEntry target) list body place = refl
enclosing_place (enclosing.If variable) list body place = refl
enclosing_place (enclosing.ForEach variable status) list body place = refl
enclosing_place (enclosing.ForTokens variable status) list body place = refl

pub addressing_place : (a : Addressing) (list : Attributes) (params : Params) (place : Place) → place_of (addressing_node a list params place) ≡ place
addressing_place (addressing.Import variable) list params place = refl
addressing_place (addressing.Url variable) list params place = refl
addressing_place addressing.Redirect list params place = refl
addressing_place (addressing.Include flush) list params place = refl
addressing_place addressing.Forward list params place = refl

-- where their faults stand that have no place of their own
pub ruleset places = (enclosing_place, addressing_place)
