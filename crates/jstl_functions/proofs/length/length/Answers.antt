use Rattle.std.proofs.Common.{pos, length, Ok, sym, ap, ◌∙◌}
use Rattle.std.proofs.lemmas.List.{length-map}
use Rattle.pg_value.specs.Datum.{number}
use Rattle.pg_value.specs.Value.{datum_of}
use Rattle.jstl_functions.specs.Functions.{length_of}
use Rattle.jstl_functions.proofs.Contents.{length_of-list, length_of-rec}
use Rattle.jstl_functions.proofs.length.length.Goals as goal

pub returns-in-List : goal.returns-in-List
returns-in-List c =
    ap (λ v. length_of (datum_of v)) c.in-List.is
    ∙ length_of-list c.in-List.items
    ∙ ap (λ n. Ok (number (pos n))) (ap length (sym c.as_slice.ensures) ∙ length-map c.as_slice.result.now datum_of)
    ∙ ap Ok (sym c.number.ensures)

pub returns-in-Rec : goal.returns-in-Rec
returns-in-Rec c =
    ap (λ v. length_of (datum_of v)) c.in-Rec.is
    ∙ length_of-rec c.in-Rec.entries
    ∙ ap (λ n. Ok (number (pos n))) (sym c.len.ensures.len)
    ∙ ap Ok (sym c.number-in-Rec.ensures)
