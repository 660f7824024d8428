use Rattle.std.proofs.Common.{Ok, ap, sym, ◌∙◌}
use Rattle.run_parts.proofs.ObjectLemmas.{whole_other}
use Rattle.run_parts.proofs.objects.whole.Goals as goal

pub returns-in_default : goal.returns-in_default
returns-in_default c = whole_other c.args.reply c.in_default.not-Large ∙ ap Ok (sym c.told_value.ensures)
