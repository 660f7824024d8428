use Rattle.std.proofs.Common.{string_bytes}
use Rattle.std.specs.Str.{chars}
use Rattle.jstl_functions.specs.Texts.{is_delimiter}
use Rattle.jstl_functions.proofs.Splits.{Cut}
use Rattle.jstl_functions.proofs.split.tokens.Given as goal

abbrev pub invariant-loop-c : goal.invariant-loop-c
invariant-loop-c l = Cut (is_delimiter l.delimiters) (chars l.text) l.c-iterator.rest.now l.found.items (string_bytes l.token)
