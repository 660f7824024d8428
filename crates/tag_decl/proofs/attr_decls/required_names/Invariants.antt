use Rattle.std.proofs.Common.{◌≡◌, ◌++◌, drop}
use Rattle.tag_decl.specs.Required.{required_names}
use Rattle.tag_decl.proofs.attr_decls.required_names.Given as goal

abbrev pub invariant-loop-decl : goal.invariant-loop-decl
invariant-loop-decl l = l.names ++ required_names (drop l.decl-index l.decls) ≡ required_names l.decls
