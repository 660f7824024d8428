use Rattle.std.proofs.Common.{ap, codes, ◌∙◌}
use Rattle.jstl_functions.specs.Texts.{tokens}
use Rattle.run_values.proofs.RoundLemmas.{list_items, text_items}
use Rattle.run_values.proofs.loops.items_in.Goals as goal

pub returns-in_ok-copy-in-List : goal.returns-in_ok-copy-in-List
returns-in_ok-copy-in-List c = list_items c.args.value.now c.in-List.items c.in_ok-copy-in-List.field-0 c.in-List.is c.in_ok-copy-in-List.ensures

pub returns-in_ok-found-in-Text : goal.returns-in_ok-found-in-Text
returns-in_ok-found-in-Text c =
    text_items c.args.value.now c.in-Text.text c.new-in-Text.result c.in-Text.is (c.new-in-Text.ensures ∙ c.in_ok-found-in-Text.ensures ∙ ap (tokens (codes ",")) c.as_str.ensures)
