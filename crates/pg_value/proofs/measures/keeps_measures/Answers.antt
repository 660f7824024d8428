use Rattle.std.proofs.Common.{sym, ◌∙◌, arith}
use Rattle.std.proofs.lemmas.Bool.{eqb-true}
use Rattle.pg_value.specs.Value.{datum_of}
use Rattle.pg_value.proofs.Placed.{measured_again, seen_length}
use Rattle.pg_value.proofs.measures.keeps_measures.Goals as goal

pub returns-then-weight : goal.returns-then-weight
returns-then-weight c = λ same w d h.
    measured_again c.args.entries.now c.args.at w d c.index-entries-at.result (datum_of c.args.value.now) (omega (arith, c.requires, seen_length c.args.entries.now))
    (sym c.weight.ensures ∙ c.if-weight.true ∙ c.weight-2.ensures) (sym c.depth.ensures ∙ eqb-true _ _ same ∙ c.depth-then-weight.ensures) h
