use Rattle.std.proofs.Common.{◌≡◌, take}
use Rattle.translator.proofs.declarations.copied_variables.Given as goal

abbrev pub invariant-loop-decl : goal.invariant-loop-decl
invariant-loop-decl l = l.copies ≡ take l.decl-index l.decls
