use Rattle.std.proofs.Common.{Some, None, sym, subst, ◌∙◌}
use Rattle.memchr.specs.Find.{FindsNeedle}
use Rattle.http_in.specs.HeadEnd.{empty_line}
use Rattle.http_in.proofs.EmptyLines.{found_line}
use Rattle.http_in.proofs.head_end.through_empty_line.Goals as goal

pub returns-in_err-at-clause-value : goal.returns-in_err-at-clause-value
returns-in_err-at-clause-value c =
    c.from_residual.ensures ∙ sym (found_line c.args.bytes.now None (subst (FindsNeedle c.args.bytes.now empty_line 0) c.in_err-at.was c.find.ensures))

pub returns-clause-value : goal.returns-clause-value
returns-clause-value c =
    sym (found_line c.args.bytes.now (Some c.in_ok-at.at) (subst (FindsNeedle c.args.bytes.now empty_line 0) c.in_ok-at.was c.find.ensures))
