use Rattle.std.proofs.Common.{◌≡◌, ◌++◌, drop}
use Rattle.tag_decl.specs.Declare.{variables_of}
use Rattle.tag_decl.proofs.declaring.variables_of.Given as goal

abbrev pub invariant-loop-directive : goal.invariant-loop-directive
invariant-loop-directive l = l.decls ++ variables_of (drop l.directive-index l.directives) ≡ variables_of l.directives
