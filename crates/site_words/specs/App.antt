-- The application's attributes.
use Rattle.std.specs.Prelude.{ℕ, List, Option, Some, None, if◌then◌else◌}
use Rattle.pg_value.specs.Attrs.{entry_at, with_entry, without_entry}
use Rattle.pg_value.specs.Datum.{Datum, rec, entries_of}
use Rattle.pg_value.specs.Limits.{is_over}
use Rattle.pg_value.specs.Weight.{weight_of}
use Rattle.pg_value.specs.Value.{datum_of, value_of}
use Rattle.pg_value.specs.declared.value.Value.{Value}
use Rattle.pg_value.specs.declared.value.Value.TheVariants as variant
use Rattle.site_words.specs.Weights.{capped}
use Rattle.site_words.specs.declared.words.AppStep.{AppStep}
use Rattle.site_words.specs.declared.words.AppStep.TheVariants as step
use Rattle.site_words.specs.declared.words.AppReply.{AppReply}
use Rattle.site_words.specs.declared.words.AppReply.TheVariants as answer
use Rattle.site_words.specs.declared.words.Op.{Op}
use Rattle.site_words.specs.declared.words.Op.TheVariants as op

-- the attributes once a name is there: as they were where it stood, else with the value
abbrev pub ensured : Option Datum → List ℕ → Value → List (List ℕ × Datum) → List (List ℕ × Datum)
ensured None name value app = with_entry app name (datum_of value)
ensured (Some d) name value app = app

-- the application's attributes after a step on them
abbrev pub app_step : List (List ℕ × Datum) → AppStep → List (List ℕ × Datum)
app_step app (step.Get name) = app
app_step app (step.Set name value) = with_entry app name (datum_of value)
app_step app (step.Remove name) = without_entry app name
app_step app (step.Ensure name value) = ensured (entry_at name app) name value app
app_step app step.All = app

-- the application's attributes after an operation: only a step on them changes them
abbrev pub app_after : List (List ℕ × Datum) → Op → List (List ℕ × Datum)
app_after app (op.App request step) = app_step app step
app_after app other = app

-- the value that a datum is, and null for none
abbrev pub value_or_null : Option Datum → Value
value_or_null None = variant.Null
value_or_null (Some d) = value_of d

-- what an Ensure is told: the value that stood there, or that it was set
abbrev pub ensure_reply : Option Datum → AppReply
ensure_reply None = answer.Created
ensure_reply (Some d) = answer.Value (value_of d)

-- what a step on the application's attributes is told; all of them are told only where they keep the limits of a value
abbrev pub app_reply : List (List ℕ × Datum) → AppStep → AppReply
app_reply app (step.Get name) = answer.Value (value_or_null (entry_at name app))
app_reply app (step.Set name value) = answer.Done
app_reply app (step.Remove name) = answer.Done
app_reply app (step.Ensure name value) = ensure_reply (entry_at name app)
app_reply app step.All = if is_over (rec (entries_of app)) then answer.Large (capped (weight_of (rec (entries_of app)))) else answer.Value (variant.Rec app)
