use Rattle.page_pieces.proofs.NameListLemmas.{names_more}
use Rattle.page_pieces.proofs.name_set.with_name.Goals as goal

pub returns : goal.returns
returns c names has = names_more c.args.known c.insert.new.self c.in_ok-from_str.field-0 names c.args.name.now c.in_ok-from_str.ensures.ok c.in_ok-insert.ensures.updates has
