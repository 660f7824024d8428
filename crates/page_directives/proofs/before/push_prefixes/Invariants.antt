use Rattle.std.proofs.Common.{◌≡◌, ◌++◌, drop}
use Rattle.page_directives.specs.Taglibs.{prefixes_in_text}
use Rattle.page_directives.proofs.before.push_prefixes.Given as goal

abbrev pub invariant-loop-i : goal.invariant-loop-i
invariant-loop-i l = l.prefixes ++ prefixes_in_text (drop l.i l.text) ≡ l.fn.prefixes ++ prefixes_in_text l.text
