use Rattle.std.proofs.Common.{lit<}
use Rattle.run_values.proofs.CookieLemmas.{no_cookie}
use Rattle.run_values.proofs.cookies.cookie_in.Goals as goal

pub returns-in-None : goal.returns-in-None
returns-in-None c = no_cookie c.args.piece.now (c.in-None.ensures.byte (lit< tt) (λ w o found. found))
