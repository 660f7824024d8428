use Rattle.std.proofs.Common.{◌&&◌, length, nat_le, sym, ap, ◌∙◌, rules}
use Rattle.std.specs.List.{list_all, slice_split}
use Rattle.context_names.proofs.Told.{names_seen}
use Rattle.context_names.specs.Names.{are_distinct, is_comma, is_name}
use Rattle.context_names.proofs.telling.tells_names.Goals as goal
use Rattle.context_names.proofs.telling.tells_names.Goals.{then-are_few, else-are_few}

pub returns-then-all_named : goal.returns-then-all_named
returns-then-all_named c =
    let words = slice_split is_comma c.args.word.now in
    elim c.if-are_few.branch [
      | then-are_few w ↦
          c.are_distinct.ensures ∙ sym (
          names_seen c.args.word.now
          ∙ ap (λ few. few && (list_all is_name words && are_distinct words)) (sym c.are_few.ensures ∙ w.if-are_few.true)
          ∙ ap (λ named. named && are_distinct words) (sym w.all_named.ensures ∙ sym w.value-is ∙ c.if-all_named.true)
          )
      | else-are_few w ↦ search rules
    ]
