use Rattle.std.proofs.Common.{◌∙◌, Some, None, sym, ap, arith}
use Rattle.http_in.proofs.Scans.{end_found, looks_again, looks_on}
use Rattle.http_in.proofs.scan.Scan.look_on.Goals as goal

pub returns-in-Some-clause-value : goal.returns-in-Some-clause-value
returns-in-Some-clause-value c =
    ap Some (omega arith) ∙ sym (end_found c.args.bytes.now c.args.at (Some c.in-Some.len) c.requires c.in-Some.ensures.value)

pub returns-in-Some-clause-looked : goal.returns-in-Some-clause-looked
returns-in-Some-clause-looked c = looks_again c.args.bytes.now c.args.at c.in-Some.len _ c.requires c.in-Some.ensures.value (omega arith)

pub returns-clause-value : goal.returns-clause-value
returns-clause-value c = sym (end_found c.args.bytes.now c.args.at None c.requires c.in_default.ensures.value)

pub returns-clause-looked : goal.returns-clause-looked
returns-clause-looked c = looks_on c.args.bytes.now c.args.at c.max.result c.requires c.in_default.ensures.value (omega arith)
