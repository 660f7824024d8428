use Rattle.std.proofs.Common.{◌≡◌, ◌++◌, length, string_bytes}
use denote.Text.{Utf8}
use denote.Shadow.{shadow}
use Rattle.jstl_functions.specs.Texts.{replaced_behind}
use Rattle.jstl_functions.proofs.replace.replace_some.Given as goal

abbrev pub invariant-loop-before : goal.invariant-loop-before
invariant-loop-before l = record {
  text : shadow (Utf8 l.rest);
  same : replaced_behind l.old l.new 0 l.text ≡ string_bytes l.made ++ replaced_behind l.old l.new 0 l.rest;
}

abbrev pub decreases-loop-before : goal.decreases-loop-before
decreases-loop-before l = length l.rest
