-- Actions on an address with params: what becomes of the attributes of each, and its code behind the values of its attributes, from the code
-- of its params.
use Rattle.std.specs.Prelude.{ℕ, List, [], ◌∷◌, ◌++◌, codes, option_map}
use Rattle.code_actions.specs.declared.evaluations.Evaluations.{Evaluations}
use Rattle.code_actions.specs.declared.evaluations.Evaluations.TheVariants as evaluations
use Rattle.page_acts.specs.Views.{variable_of}
use Rattle.page_acts.specs.declared.addressing.Addressing.{Addressing}
use Rattle.page_acts.specs.declared.addressing.Addressing.TheVariants as action
use Rattle.page_code.specs.declared.code.Cell.{Cell}
use Rattle.page_code.specs.declared.op.Op.TheVariants as op
use Rattle.page_code.specs.declared.shape.Shape.{Shape}
use Rattle.code_forms.specs.Codes.{arranged_code, form_code}
use Rattle.code_forms.specs.Forms.{calls, does, forwards_to, imported_page, included_page, redirects_to}
use Rattle.code_lowering.specs.Lowering.{kept_in, url_put}
use Rattle.pg_text.specs.declared.place.Place.{Place}

-- what becomes of its attributes
abbrev pub addressing_evaluations : Addressing → Evaluations
addressing_evaluations (action.Import x) = evaluations.Url
addressing_evaluations (action.Url x) = evaluations.Url
addressing_evaluations action.Redirect = evaluations.Url
addressing_evaluations (action.Include flush) = evaluations.Page
addressing_evaluations action.Forward = evaluations.Page

-- the address that the attribute of a name is, with so many params
abbrev pub url_code : Shape → Place → (address : List ℕ) → (names : List (List ℕ)) → (count : ℕ) → (params : List Cell) → List Cell
url_code sh place address names count params = (arranged_code sh place (address ∷ []) names 0 ++ params) ++ form_code sh (does (op.Url count) place)

-- the address of a page with params
abbrev pub page_address_code : Shape → Place → (names : List (List ℕ)) → (params : List Cell) → List Cell
page_address_code sh place names params = arranged_code sh place (codes "page" ∷ []) names 0 ++ params

-- the address
abbrev pub address_code : Addressing → Shape → Place → (names : List (List ℕ)) → (count : ℕ) → (params : List Cell) → List Cell
address_code (action.Import x) sh place names count params = url_code sh place (codes "url") names count params
address_code (action.Url x) sh place names count params = url_code sh place (codes "value") names count params
address_code action.Redirect sh place names count params = url_code sh place (codes "url") names count params
address_code (action.Include flush) sh place names count params = page_address_code sh place names params
address_code action.Forward sh place names count params = page_address_code sh place names params

-- what is done with it
abbrev pub address_done : Addressing → Shape → Place → (count : ℕ) → List Cell
address_done (action.Import x) sh place count = form_code sh (kept_in place (option_map variable_of x) (calls imported_page place))
address_done (action.Url x) sh place count = form_code sh (url_put place (option_map variable_of x))
address_done action.Redirect sh place count = form_code sh (redirects_to place)
address_done (action.Include flush) sh place count = form_code sh (calls (included_page flush count) place)
address_done action.Forward sh place count = form_code sh (forwards_to count place)

-- the code of the action
abbrev pub addressing_code : Addressing → Shape → Place → (names : List (List ℕ)) → (count : ℕ) → (params : List Cell) → List Cell
addressing_code a sh place names count params = address_code a sh place names count params ++ address_done a sh place count
