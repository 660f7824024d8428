-- Which operations a pass may do.
use Rattle.std.specs.Prelude.{ℕ, ◌+◌, Bool, true, false, ◌&&◌, ◌||◌, not, ◌==◌, nat_lt, nat_le, List, [], ◌∷◌, length, Option, Some, None}
use Rattle.pg_value.specs.Limits.{is_over}
use Rattle.pg_value.specs.Value.{datum_of}
use Rattle.pg_value.specs.declared.value.Value.{Value}
use Rattle.pg_value.specs.declared.value.Value.TheVariants as variant
use Rattle.site_words.specs.declared.words.AppStep.{AppStep}
use Rattle.site_words.specs.declared.words.AppStep.TheVariants as step
use Rattle.site_words.specs.declared.words.Run.{Run}
use Rattle.site_words.specs.declared.words.Opening.{Opening}
use Rattle.site_words.specs.declared.words.Op.{Op}
use Rattle.site_words.specs.declared.words.Op.TheVariants as op
use Rattle.site_words.specs.Runs.{UnderWay, under_at, run_at, tree_in}
use Rattle.site_words.specs.State.{State}
use Rattle.source_tree.specs.Changed.{has_file}
use Rattle.site_words.specs.Trees.{every}
use Rattle.site_words.specs.Weights.{end_weight, value_limit, op_weight, attrs_weight, attrs_limit, most_cookie}

-- the request is under way, and this much is left of its promise
abbrev pub has_run : Option Run → ℕ → ℕ → Bool
has_run None request claim = false
has_run (Some run) request claim = (run.request == request) && nat_le claim run.left

-- no request is under way
abbrev pub has_none : Option Run → Bool
has_none None = true
has_none (Some run) = false

-- the request has a session
abbrev pub has_session : Option Run → Bool
has_session None = false
has_session (Some run) = is_some run.session
  where
    is_some : Option ℕ → Bool
    is_some None = false
    is_some (Some number) = true

-- the value is null
abbrev pub is_null : Value → Bool
is_null variant.Null = true
is_null other = false

-- the value of a step keeps its limits, and null isn't set
abbrev pub fits_step : AppStep → Bool
fits_step (step.Get name) = true
fits_step (step.Set name value) = not (is_null value) && not (is_over (datum_of value))
fits_step (step.Remove name) = true
fits_step (step.Ensure name value) = not (is_over (datum_of value))
fits_step step.All = true

-- the list has no item
abbrev pub is_empty : {A : Type 0} → List A → Bool
is_empty [] = true
is_empty (x ∷ xs) = false

-- the part of the condition that speaks of the pass's request alone
abbrev pub asks : Option Run → Op → Bool
asks run (op.Publish base edits) = true
asks run (op.Begin cookie moment) = has_none run && nat_le (length cookie) most_cookie
asks run (op.App request step) = has_run run request (op_weight (op.App request step) + value_limit + end_weight) && fits_step step
asks run (op.Fresh request) = has_run run request (op_weight (op.Fresh request) + end_weight) && not (has_session run)
asks run (op.Fetch request path) = has_run run request (op_weight (op.Fetch request path) + end_weight)
asks run (op.Offer request path) = has_run run request (op_weight (op.Offer request path) + end_weight)
asks run (op.End request attrs) = has_run run request 0 && (nat_le (attrs_weight attrs) attrs_limit && (has_session run || is_empty attrs))
asks run (op.Abandon request) = has_run run request 0
asks run (op.Snapshot cookie) = nat_le (length cookie) most_cookie
asks run op.Roll = true

-- what is offered is in the request's tree
abbrev pub finds : Option UnderWay → Op → Bool
finds under (op.Offer request path) = has_file path (tree_in under)
finds under other = true

-- no request is under way here
abbrev pub is_free : Option UnderWay → Bool
is_free None = true
is_free (Some under) = false

-- no request is under way
abbrev pub at_rest : List (Option UnderWay) → Bool
at_rest runs = every is_free runs

-- a Roll comes where no request is under way
abbrev pub rests : List (Option UnderWay) → Op → Bool
rests runs op.Roll = at_rest runs
rests runs other = true

-- the condition of a step
abbrev pub fits : Opening → State → ℕ → Op → Bool
fits x s pass o = nat_lt pass x.passes && (asks (run_at s.runs pass) o && (finds (under_at s.runs pass) o && rests s.runs o))
