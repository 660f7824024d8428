-- Loops, stored as their parts, by which a proof tells them apart.
use Rattle.std.specs.Coded.{Coded, code_by, coded_list, coded_option, coded_ℕ, coded×}
use Rattle.std.specs.Prelude.{ℕ, List, Option, refl}
use Rattle.page_meaning.specs.Rounds.{Round}
use Rattle.page_table.specs.Open.{Loop}
use Rattle.pg_value.specs.Datum.{Datum}
use Rattle.pg_value.specs.DatumCode.{entries_code}
use Rattle.run_values.specs.RoundCode.{rounds_code}

abbrev name_code : Coded (Option (List ℕ))
name_code = coded_option (coded_list coded_ℕ)

abbrev loop_code : Coded Loop
loop_code =
    code_by (Option (List ℕ) × (Option (List ℕ) × (List (List ℕ × Datum) × List Round))) (coded× name_code (coded× name_code (coded× entries_code rounds_code)))
    (λ l. (l.variable, (l.status, (l.values, l.rounds)))) (λ p. record { variable = p.0; status = p.1.0; values = p.1.1.0; rounds = p.1.1.1 }) (λ _. refl)

abbrev pub loops_code : Coded (List Loop)
loops_code = coded_list loop_code
