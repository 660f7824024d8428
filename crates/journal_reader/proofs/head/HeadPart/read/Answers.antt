use Rattle.std.proofs.Common.{refl}
use Rattle.std.specs.Prelude.{⊤}
use Rattle.journal_reader.proofs.HeadLemmas.{head_body, head_tag, head_text, int_head, int_head_made, list_head, record_head, text_head, truth_head}
use Rattle.journal_reader.proofs.Parts.{passed}
use Rattle.journal_reader.proofs.Tags.{body_read, body_stops}
use Rattle.journal_reader.specs.Frames.{IsHead, of_head}
use Rattle.pg_value.specs.declared.value.Value.TheVariants as variant
use Rattle.journal_reader.specs.declared.head.Head.TheVariants as head
use Rattle.site_journal.specs.Codes.{IsInt, IsNumber, IsText, of_bytes, of_int, of_number, of_truth}
use Rattle.journal_reader.proofs.head.HeadPart.read.Goals as goal

pub returns-in_err-read-in-1 : goal.returns-in_err-read-in-1
returns-in_err-read-in-1 g c =
    passed c.from_residual-in_err-read-in-1.result c.from_residual-in_err-read-in-1.ensures.1
    (body_stops IsHead of_head head_tag head_body head_text (λ b. ⊤) of_truth (λ b. head.Plain (variant.Bool b)) 1 truth_head (cc) c.in_ok-read.ensures c.in_err-read-in-1.ensures)

pub returns-in_ok-read-in-1 : goal.returns-in_ok-read-in-1
returns-in_ok-read-in-1 g c =
    body_read IsHead of_head head_tag head_body head_text (λ b. ⊤) of_truth (λ b. head.Plain (variant.Bool b)) 1 truth_head (cc) (tt, tt) refl c.in_ok-read.ensures c.in_ok-read-in-1.ensures

pub returns-in_err-read-in-2 : goal.returns-in_err-read-in-2
returns-in_err-read-in-2 g c =
    passed c.from_residual-in_err-read-in-2.result c.from_residual-in_err-read-in-2.ensures.1
    (body_stops IsHead of_head head_tag head_body head_text IsInt of_int (λ n. head.Plain (variant.Int n)) 2 int_head (cc) c.in_ok-read.ensures c.in_err-read-in-2.ensures)

pub returns-in_ok-read-in-2 : goal.returns-in_ok-read-in-2
returns-in_ok-read-in-2 g c = int_head_made (cc) c.in_ok-read.ensures c.in_ok-read-in-2.ensures

pub returns-in_err-read-in-3 : goal.returns-in_err-read-in-3
returns-in_err-read-in-3 g c =
    passed c.from_residual-in_err-read-in-3.result c.from_residual-in_err-read-in-3.ensures.1
    (body_stops IsHead of_head head_tag head_body head_text IsText of_bytes (λ t. head.Plain (variant.Text t)) 3 text_head (cc) c.in_ok-read.ensures c.in_err-read-in-3.ensures)

pub returns-in_ok-read-in-3 : goal.returns-in_ok-read-in-3
returns-in_ok-read-in-3 g c =
    body_read IsHead of_head head_tag head_body head_text IsText of_bytes (λ t. head.Plain (variant.Text t)) 3 text_head (cc) (tt, c.in_ok-read-in-3.ensures.answered.is) refl c.in_ok-read.ensures c.in_ok-read-in-3.ensures

pub returns-in_err-read-in-4 : goal.returns-in_err-read-in-4
returns-in_err-read-in-4 g c =
    passed c.from_residual-in_err-read-in-4.result c.from_residual-in_err-read-in-4.ensures.1
    (body_stops IsHead of_head head_tag head_body head_text IsNumber of_number head.List 4 list_head (cc) c.in_ok-read.ensures c.in_err-read-in-4.ensures)

pub returns-in_ok-read-in-4 : goal.returns-in_ok-read-in-4
returns-in_ok-read-in-4 g c =
    body_read IsHead of_head head_tag head_body head_text IsNumber of_number head.List 4 list_head (cc) c.in_ok-read-in-4.ensures.answered.is refl c.in_ok-read.ensures c.in_ok-read-in-4.ensures

pub returns-in_err-read-in-5 : goal.returns-in_err-read-in-5
returns-in_err-read-in-5 g c =
    passed c.from_residual-in_err-read-in-5.result c.from_residual-in_err-read-in-5.ensures.1
    (body_stops IsHead of_head head_tag head_body head_text IsNumber of_number head.Record 5 record_head (cc) c.in_ok-read.ensures c.in_err-read-in-5.ensures)

pub returns-in_ok-read-in-5 : goal.returns-in_ok-read-in-5
returns-in_ok-read-in-5 g c =
    body_read IsHead of_head head_tag head_body head_text IsNumber of_number head.Record 5 record_head (cc) c.in_ok-read-in-5.ensures.answered.is refl c.in_ok-read.ensures c.in_ok-read-in-5.ensures
