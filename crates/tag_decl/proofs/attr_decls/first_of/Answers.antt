use Rattle.std.proofs.Common.{sym, ap, ◌∙◌}
use Rattle.std.specs.List.{slice_get}
use Rattle.std.specs.Option.{option_and_then, option_copied}
use Rattle.tag_decl.proofs.attr_decls.first_of.Goals as goal

pub returns-in-Some : goal.returns-in-Some
returns-in-Some c has = c.decl_at.ensures ∙ (ap (option_and_then (slice_get c.args.decls.now)) (sym (ap option_copied c.in-Some.is) ∙ c.get.ensures.value) ∙ has c.args.name.now)

pub returns-in-None : goal.returns-in-None
returns-in-None c has = ap (option_and_then (slice_get c.args.decls.now)) (sym (ap option_copied c.in-None.is) ∙ c.get.ensures.value) ∙ has c.args.name.now
