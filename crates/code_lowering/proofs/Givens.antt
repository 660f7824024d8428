-- The values of an action's attributes, and those of them that it wants.
use Rattle.std.proofs.Common.{◌≡◌, ℕ, Bool, true, false, List, [], ◌∷◌, Some, None, Option, is_some, bytes_eq, refl, sym, ap, ◌∙◌, subst, true≢false}
use Rattle.std.specs.Prelude.{◌||◌}
use Rattle.el_ops.specs.Indexing.{or_null}
use Rattle.page_meaning.specs.Attributes.{Coercion, table_of, value_at, text_in, truth_or}
use Rattle.page_meaning.specs.Context.{Deeper}
use Rattle.page_meaning.specs.State.{State}
use Rattle.page_meaning.specs.Went.{Went, then_do}
use Rattle.page_table.specs.Act.{is_true}
use Rattle.page_table.specs.Program.{Serving}
use Rattle.page_table.specs.Seat.{Seat}
use Rattle.pg_text.specs.declared.place.Place.{Place}
use Rattle.pg_value.specs.Datum.{Datum}
use Rattle.code_forms.specs.Forms.{Form, both, arranged}
use Rattle.code_lowering.specs.Lowering.{has}
use Rattle.code_lowering.proofs.Arranged.{Named, names_of, values_of, later, last_at, wants, Distinct, arranged_goes, value_is}
use Rattle.code_lowering.proofs.Goes.{Goes, both_so, well}
use Rattle.code_lowering.proofs.Parts.{Yields, onto}
use Rattle.code_lowering.proofs.Values.{Given}

-- the value under a name is the last of that name
pub value_given : (c : List ℕ → Coercion) (names : List (List ℕ)) (ds : List Datum) (g : Given c names ds) (w : List ℕ) → value_at w (table_of names ds) ≡ last_at w g.named
value_given c names ds g w = sym (ap (λ ns. value_at w (table_of ns ds)) g.names_are) ∙ sym (ap (λ vs. value_at w (table_of (names_of g.named) vs)) g.values_are) ∙ value_is w g.named

has_named : (w : List ℕ) (es : Named) → has w (names_of es) ≡ is_some (last_at w es)
has_named w [] = refl
has_named w (e ∷ es) = ap (λ b. bytes_eq w e.0 || b) (has_named w es) ∙ either_of (last_at w es) (bytes_eq w e.0)
  where
    either_of : (r : Option Datum) (b : Bool) → (b || is_some r) ≡ is_some (later r b e.1)
    either_of (Some d) true = refl
    either_of (Some d) false = refl
    either_of None true = refl
    either_of None false = refl

-- a name is among the names where it has a value
pub has_given : (c : List ℕ → Coercion) (names : List (List ℕ)) (ds : List Datum) (g : Given c names ds) (w : List ℕ) → has w names ≡ is_some (last_at w g.named)
has_given c names ds g w = sym (ap (has w) g.names_are) ∙ has_named w g.named

pub some_of : (r : Option Datum) → is_some r ≡ true → r ≡ Some (or_null r)
some_of (Some d) h = refl
some_of None h = absurd (true≢false (sym h))

pub none_of : (r : Option Datum) → is_some r ≡ false → r ≡ None
none_of (Some d) h = absurd (true≢false h)
none_of None h = refl

-- the value of a name that is among the names, and none of one that isn't
pub value_there : (c : List ℕ → Coercion) (names : List (List ℕ)) (ds : List Datum) (g : Given c names ds) (w : List ℕ) → has w names ≡ true
    → value_at w (table_of names ds) ≡ Some (or_null (last_at w g.named))
value_there c names ds g w h = value_given c names ds g w ∙ some_of (last_at w g.named) (sym (has_given c names ds g w) ∙ h)

pub value_missing : (c : List ℕ → Coercion) (names : List (List ℕ)) (ds : List Datum) (g : Given c names ds) (w : List ℕ) → has w names ≡ false → value_at w (table_of names ds) ≡ None
value_missing c names ds g w h = value_given c names ds g w ∙ none_of (last_at w g.named) (sym (has_given c names ds g w) ∙ h)

-- an absent value is taken like null
pub text_of_none : (r : Option Datum) → text_in r ≡ text_in (Some (or_null r))
text_of_none (Some d) = refl
text_of_none None = refl

pub truth_of_none : (r : Option Datum) → truth_or false r ≡ is_true (or_null r)
truth_of_none (Some d) = refl
truth_of_none None = refl

module _ {serving : Serving} {seat : Seat} {deep : ℕ → Deeper} {Calls : ℕ → Type 0} where
  -- the wanted values alone
  pub arranged_given : (place : Place) (wanted : List (List ℕ)) → Distinct wanted → (c : List ℕ → Coercion) (names : List (List ℕ)) (ds : List Datum) (g : Given c names ds)
      → Goes serving seat deep Calls (arranged wanted names place) (onto ds []) (λ u. onto (wants wanted g.named) []) (λ dp s. well s)
  arranged_given place wanted distinct c names ds g =
      subst (λ vs. Goes serving seat deep Calls (arranged wanted names place) (onto vs []) (λ u. onto (wants wanted g.named) []) (λ dp s. well s)) g.values_are
      (subst (λ ns. Goes serving seat deep Calls (arranged wanted ns place) (onto (values_of g.named) []) (λ u. onto (wants wanted g.named) []) (λ dp s. well s)) g.names_are
      (arranged_goes serving seat deep Calls place wanted distinct g.named))

  -- attributes, and what is done with their values
  pub with_values_goes : {k j : ℕ} {A : Type 0} {st : A → List Datum} {fa : Form 0 k} {rest : Form k j} {values : Deeper → State → Went
      (List Datum)} {go : List Datum → Deeper → State → Went A} (c : List ℕ → Coercion) (names : List (List ℕ))
      → ((dp : Deeper) (s : State) → Yields (Given c names) (values dp s)) → Goes serving seat deep Calls fa [] (λ ds. onto ds []) values
      → ((ds : List Datum) → Given c names ds → Goes serving seat deep Calls rest (onto ds []) st (go ds))
      → Goes serving seat deep Calls (both fa rest) [] st (λ dp s. then_do (values dp s) (λ ds s1. go ds dp s1))
  with_values_goes {fa = fa} {rest = rest} c names y h g = both_so (Given c names) fa rest y h g
