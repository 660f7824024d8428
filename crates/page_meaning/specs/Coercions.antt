-- What the attributes of actions and core tags are coerced to; an attribute that stands in no table is taken as it is.
use Rattle.std.specs.Prelude.{ℕ, List, [], ◌∷◌, codes}
use Rattle.page_meaning.specs.Attributes.{Coercion, to_text, to_text_or_null, to_number, to_truth}

-- of `c:out`
abbrev pub out_coercions : List (List ℕ × Coercion)
out_coercions = (codes "value", to_text_or_null) ∷ (codes "default", to_text) ∷ (codes "escapeXml", to_truth) ∷ []

-- of `c:set`
abbrev pub set_coercions : List (List ℕ × Coercion)
set_coercions = (codes "property", to_text) ∷ []

-- of `c:if` and `c:when`
abbrev pub test_coercions : List (List ℕ × Coercion)
test_coercions = (codes "test", to_truth) ∷ []

-- of `c:forEach`
abbrev pub each_coercions : List (List ℕ × Coercion)
each_coercions = (codes "begin", to_number) ∷ (codes "end", to_number) ∷ (codes "step", to_number) ∷ []

-- of `c:forTokens`
abbrev pub token_coercions : List (List ℕ × Coercion)
token_coercions = (codes "items", to_text) ∷ (codes "delims", to_text) ∷ each_coercions

-- of `c:url`, `c:import` and `c:redirect`
abbrev pub url_coercions : List (List ℕ × Coercion)
url_coercions = (codes "url", to_text) ∷ (codes "value", to_text) ∷ []

-- of `c:param` and `jsp:param`
abbrev pub param_coercions : List (List ℕ × Coercion)
param_coercions = (codes "name", to_text) ∷ (codes "value", to_text) ∷ []

-- of `jsp:include` and `jsp:forward`
abbrev pub page_coercions : List (List ℕ × Coercion)
page_coercions = (codes "page", to_text) ∷ []
