use Rattle.std.proofs.Common.{Ok, rules}
use Rattle.pg_text.specs.Failure.{Answers}
use Rattle.pg_value.specs.Value.{datum_of}
use Rattle.el_coercion.specs.Text.{text_of}
use Rattle.el_coercion.proofs.Printed.{reads_back}
use Rattle.el_coercion.proofs.text.to_text.Goals as goal

pub returns-in_ok-copy_of-in-Bool-clause-reads_back : goal.returns-in_ok-copy_of-in-Bool-clause-reads_back
returns-in_ok-copy_of-in-Bool-clause-reads_back c =
    let answers : Answers (text_of (datum_of c.args.value.now)) (Ok c.in_ok-copy_of-in-Bool.field-0) = search rules in
    reads_back c.args.value.now (Ok c.in_ok-copy_of-in-Bool.field-0) answers

pub returns-in_ok-copy_of-in-Int-clause-reads_back : goal.returns-in_ok-copy_of-in-Int-clause-reads_back
returns-in_ok-copy_of-in-Int-clause-reads_back c =
    let answers : Answers (text_of (datum_of c.args.value.now)) (Ok c.in_ok-copy_of-in-Int.field-0) = search rules in
    reads_back c.args.value.now (Ok c.in_ok-copy_of-in-Int.field-0) answers
