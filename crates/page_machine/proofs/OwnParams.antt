-- The parameters with which the page of a target runs.
use Rattle.std.proofs.Common.{◌≡◌, ◌++◌, ℕ, false, List, [], ◌∷◌, Option, Some, None, length, refl, sym, subst, arith}
use Rattle.std.specs.Prelude.{is_some, map, unwrap_or}
use Rattle.form_urlencoded.specs.Form.{raw_pairs, split}
use Rattle.http_in.specs.Params.{params_in}
use Rattle.http_in.specs.Target.{query_of}
use Rattle.http_in.specs.declared.params.Param.{Param}
use Rattle.page_machine.specs.Pages.{included_run}
use Rattle.page_machine.specs.Turn.{Stepped}
use Rattle.page_meaning.specs.Context.{Run}
use Rattle.page_meaning.specs.Includes.{target_params}
use Rattle.page_meaning.specs.State.{State}
use Rattle.page_table.specs.Open.{Open}
use Rattle.page_table.specs.Operations.{params_in as given_in}
use Rattle.page_table.specs.Program.{Program, Serving}
use Rattle.page_table.specs.Seat.{Seat}
use Rattle.pg_text.specs.declared.place.Place.{Place}
use Rattle.pg_value.specs.Value.{datum_of}
use Rattle.pg_value.specs.declared.value.Value.{Value}
use Rattle.run_moves.specs.declared.flow.Flow.{Flow}
use Rattle.run_world.specs.Origin.{Origin}
use Rattle.site_words.specs.Law.{Answer}

-- no text has no parameters
no_text : params_in [] ≡ []
unfolding params_in raw_pairs split
no_text = refl

-- no query, where there is none
no_query : (query : Option (List ℕ)) → is_some query ≡ false → params_in (unwrap_or query []) ≡ []
no_query None e = no_text
no_query (Some text) e = absurd (cc)

-- nothing before a list
both_empty : (query given params : List Param) → query ≡ [] → given ≡ [] → params ≡ query ++ given ++ params
both_empty [] [] params e f = refl
both_empty (q ∷ qs) given params e f = absurd (cc)
both_empty [] (g ∷ gs) params e f = absurd (cc)

-- a target without a query, to which nothing is given, has the parameters of the page that runs
pub same_params : (run : Run) (address : List ℕ) (given : List Value) → is_some (query_of address) ≡ false → length given ≡ 0
    → run.params ≡ target_params run address (given_in (map datum_of given))
same_params run address [] none e = both_empty (params_in (unwrap_or (query_of address) [])) [] run.params (no_query (query_of address) none) refl
same_params run address (value ∷ rest) none e = absurd (omega (arith, e))

-- an included page is the same, with the same parameters, under other names
module _ {W : Type 0} {reached : W → Origin → W → State → Type 0} {replies : W → List Answer} {serves : W → Serving → Type 0} where
  pub with_params : (seat : Seat) (place : Place) (program shown : Program) → shown ≡ program → (left to : ℕ) (o : Open) (params others : List Param) → params ≡ others → (old new : W) (o2 : Open) (flow : Flow)
      → Stepped reached replies serves seat (λ serving s. included_run place shown others left to s o) old new o2 flow → Stepped reached replies serves seat (λ serving s. included_run place program params left to s o) old new o2 flow
  with_params seat place program shown this left to o params others same old new o2 flow stepped =
      subst (λ p. Stepped reached replies serves seat (λ serving s. included_run place p params left to s o) old new o2 flow) this
      (subst (λ ps. Stepped reached replies serves seat (λ serving s. included_run place shown ps left to s o) old new o2 flow) (sym same) stepped)
