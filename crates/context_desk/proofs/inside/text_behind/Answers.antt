use Rattle.std.proofs.Common.{arith}
use Rattle.std.proofs.lemmas.Str.{IsCharBoundary-before_ascii}
use Rattle.context_desk.proofs.inside.text_behind.Goals as goal

pub split_at-requires : goal.split_at-requires
split_at-requires c = IsCharBoundary-before_ascii c.args.text.now c.args.cut c.requires.within (omega (arith, c.requires.slash))
