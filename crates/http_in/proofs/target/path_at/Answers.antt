use Rattle.std.proofs.Common.{sym, ap}
use Rattle.std.specs.Result.{result_ok}
use Rattle.std.proofs.lemmas.Str.{is_utf8-from_IsUtf8}
use Rattle.http_in.proofs.target.path_at.Goals as goal

pub returns-in-Ok : goal.returns-in-Ok
returns-in-Ok c = rw (is_utf8-from_IsUtf8 c.args.text.now c.utf8.text) (sym (ap result_ok c.in-Ok.ensures))
