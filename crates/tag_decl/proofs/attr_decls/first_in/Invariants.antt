use Rattle.std.proofs.Common.{◌≡◌, drop}
use Rattle.tag_decl.specs.ReadFirsts.{first_named}
use Rattle.tag_decl.proofs.attr_decls.first_in.Given as goal

abbrev pub invariant-loop-decl : goal.invariant-loop-decl
invariant-loop-decl l = first_named l.name (drop l.decl-index l.decls) ≡ first_named l.name l.decls
