use Rattle.std.proofs.Common.{◌∙◌, Global, ap, arith, sym}
use Rattle.std.specs.Prelude.{string_bytes, option_map}
use Rattle.serve_words.proofs.OptionSteps.{one_word, two_words}
use Rattle.serve_words.proofs.option_words.+read.Goals as goal

pub returns-in_ok-given-in-Some-clause-value :
    goal.returns-in_ok-given-in-Some-clause-value
returns-in_ok-given-in-Some-clause-value t c =
    let next = c.in_ok-given-in-Some in
    c.read.ensures.value ∙ sym (one_word (string_bytes {Z = Global}) c.args.words.now c.word-item.result c.in-Some.name.now c.in-Some.value.now
    (c.args.given, option_map (λ names. names.now) c.args.names) (next.given, option_map (λ names. names.now) next.names)
    (omega (arith, c.in-len1-up.len_at_least))
    c.word-item.is
    (rw (← c.as_str.ensures.value) (sym c.split_at_equals.ensures ∙ ap (option_map (λ split. (split.0.now, split.1.now))) c.in-Some.is))
    (sym c.with_word.ensures.value ∙ ap (option_map (λ told. (told.0, option_map (λ names. names.now) told.1))) next.was))

pub returns-in_ok-given-in-len1-up-rest-clause-value :
    goal.returns-in_ok-given-in-len1-up-rest-clause-value
returns-in_ok-given-in-len1-up-rest-clause-value t c =
    let next = c.in_ok-given-in-len1-up-rest in
    c.read-in-len1-up-rest.ensures.value ∙ sym (two_words (string_bytes {Z = Global}) c.args.words.now c.word-item.result c.value-item.result
    (c.args.given, option_map (λ names. names.now) c.args.names) (next.given, option_map (λ names. names.now) next.names)
    (omega (arith, c.in-len1-up.len_at_least))
    c.word-item.is
    (omega (arith, c.in-len1-up-rest.len_at_least))
    c.value-item.is
    (rw (← c.as_str.ensures.value) (sym c.split_at_equals.ensures ∙ ap (option_map (λ split. (split.0.now, split.1.now))) c.in-None.is))
    (rw (← c.as_str-in-len1-up-rest.ensures.value, ← c.as_str-in-len1-up-rest-2.ensures.value) (sym c.with_word-in-len1-up-rest.ensures.value ∙ ap (option_map (λ told. (told.0, option_map (λ names. names.now) told.1))) next.was)))
