use Rattle.std.proofs.Common.{◌≡◌, ◌++◌, drop}
use Rattle.tag_decl.specs.Declare.{attributes_of}
use Rattle.tag_decl.proofs.declaring.attributes_of.Given as goal

abbrev pub invariant-loop-directive : goal.invariant-loop-directive
invariant-loop-directive l = l.decls ++ attributes_of (drop l.directive-index l.directives) ≡ attributes_of l.directives
