use Rattle.std.proofs.Common.{◌≡◌, IfOk, List, Ok, Some, ℕ, subst}
use Rattle.run_values.proofs.RoundLemmas.{text_copied, text_absent}
use Rattle.run_values.proofs.rounds.text_at.Goals as goal
use Rattle.page_meaning.specs.Rounds.{item_at, token_items}
use Rattle.pg_value.specs.Datum.{null}
use Rattle.pg_value.specs.Value.{datum_of}

pub returns-in-Some : goal.returns-in-Some
returns-in-Some c =
    subst (λ (ts : List (List ℕ)). IfOk c.text_value.result (λ made. item_at (Some (token_items ts)) c.args.place ≡ Ok (datum_of made))) c.as_slice.ensures
    (text_copied c.as_slice.result.now c.args.place c.in-Some.text.now c.text_value.result c.in-Some.ensures c.text_value.ensures)

pub returns-in-None : goal.returns-in-None
returns-in-None c = subst (λ (ts : List (List ℕ)). item_at (Some (token_items ts)) c.args.place ≡ Ok null) c.as_slice.ensures (text_absent c.as_slice.result.now c.args.place c.in-None.ensures)
