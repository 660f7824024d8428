-- What becomes of the attributes of each action, as the program names it.
use Rattle.std.specs.Prelude.{ℕ, List, []}
use Rattle.code_actions.specs.declared.evaluations.Evaluations.{Evaluations}
use Rattle.code_actions.specs.declared.evaluations.Evaluations.TheVariants as evaluations
use Rattle.page_meaning.specs.Attributes.{Coercion, coercion_in}
use Rattle.page_meaning.specs.Coercions.{out_coercions, set_coercions, test_coercions, each_coercions, token_coercions, url_coercions, param_coercions, page_coercions}
use Rattle.page_meaning.specs.Tags.{tag_coercion}
use Rattle.tag_decl.specs.Declare.{declared}

-- what becomes of each attribute
abbrev pub coercions : Evaluations → List ℕ → Coercion
coercions evaluations.Out = coercion_in out_coercions
coercions evaluations.Set = coercion_in set_coercions
coercions evaluations.Test = coercion_in test_coercions
coercions evaluations.Each = coercion_in each_coercions
coercions evaluations.Tokens = coercion_in token_coercions
coercions evaluations.Url = coercion_in url_coercions
coercions evaluations.Param = coercion_in param_coercions
coercions evaluations.Page = coercion_in page_coercions
coercions evaluations.AsTheyAre = coercion_in []
coercions (evaluations.Declared decls) = λ name. tag_coercion (declared name decls.now)
