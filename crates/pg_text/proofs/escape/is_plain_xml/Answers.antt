use Rattle.std.proofs.Common.{sym, ap, ◌∙◌}
use Rattle.std.specs.List.{list_all}
use Rattle.pg_text.specs.Escape.{is_plain}
use Rattle.pg_text.proofs.Escaped.{all_plain}
use Rattle.pg_text.proofs.escape.is_plain_xml.Goals as goal

pub returns-clause-same : goal.returns-clause-same
returns-clause-same c = λ is. all_plain c.args.text.now (sym (c.are_plain.ensures ∙ ap (list_all is_plain) c.as_bytes.ensures.value) ∙ is)
