use Rattle.std.proofs.Common.{◌≡◌, [], ap, arith, drop, map, reverse, sym, ◌∙◌}
use Rattle.std.proofs.lemmas.List.{drop_all}
use Rattle.run_values.proofs.TableLemmas.{map-reverse}
use Rattle.run_values.proofs.loop_values.table_of.Goals as goal
use Rattle.page_meaning.specs.Attributes.{table_onto}
use Rattle.pg_value.specs.Value.{datum_of, entry_of}

pub returns : goal.returns
returns c =
    let end : drop c.loop-index.index c.args.names.now ≡ [] = drop_all c.loop-index.index c.args.names.now (omega arith) in
    ap (map entry_of) c.reverse.ensures.items ∙ map-reverse entry_of c.loop-index.table.items
    ∙ sym (ap (λ names. table_onto (reverse (map entry_of c.loop-index.table.items)) names (map datum_of (drop c.loop-index.index c.args.values.now))) end)
    ∙ c.loop-index.invariant
