use Rattle.std.proofs.Common.{lit<}
use Rattle.serve_words.proofs.Splits.{split_found, split_none}
use Rattle.serve_words.proofs.option_words.split_at_equals.Goals as goal

pub returns-in-Some : goal.returns-in-Some
returns-in-Some c =
    let sides = c.in-Some.ensures.byte (lit< tt) (λ w o found. found) in
    split_found c.args.word.now c.in-Some.name.now c.in-Some.value.now sides.0 sides.1 sides.2

pub returns-in-None : goal.returns-in-None
returns-in-None c = split_none c.args.word.now (c.in-None.ensures.byte (lit< tt) (λ w o found. found))
