use Rattle.std.proofs.Common.{◌∷◌, [], map, ap, sym, ◌∙◌, arith}
use Rattle.std.specs.List.{range_with_len}
use Rattle.std.proofs.lemmas.List.Elements.{All-cons, All-same}
use Rattle.turn_table.specs.Passes.{Known, IsPassOf}
use Rattle.turn_table_tests.specs.declared.tests.Addition.{Addition}
use Rattle.turn_table.proofs.Numbers.{are_all}
use Rattle.turn_table_tests.proofs.tests.close.Goals as goal

pub close-requires : goal.close-requires
close-requires c =
    let items = c.in_ok-passes.ensures.items in
    let from = c.requires.from in
    let all = c.requires.all in
    are_all c.args.turns c.in_ok-passes.passes.items
    (All-same (IsPassOf c.args.turns) _ _ items
    (All-cons (IsPassOf c.args.turns) c.args.first (c.args.second ∷ []) from.0 (All-cons (IsPassOf c.args.turns) c.args.second [] from.1 (λ k d h. absurd (omega arith)))))
    (ap (map (λ (pass : Known _ Addition). pass.number)) items ∙ (λ i. all.1 i ∷ all.2 i ∷ []) ∙ sym (ap (range_with_len 0) all.0))
