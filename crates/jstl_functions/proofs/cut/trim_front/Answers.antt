use Rattle.std.proofs.Common.{sym, ap, ◌∙◌, subst}
use Rattle.std.specs.List.{prefix_len}
use Rattle.std.specs.Str.{IsCharBoundary}
use Rattle.jstl_functions.specs.Texts.{is_low}
use Rattle.jstl_functions.proofs.Low.{low_cut}
use Rattle.jstl_functions.proofs.cut.trim_front.Goals as goal

pub split_at-requires : goal.split_at-requires
split_at-requires c =
    subst (IsCharBoundary c.args.text.now) (sym (c.low_front.ensures.value ∙ ap (prefix_len is_low) c.as_bytes.ensures.value)) (low_cut c.args.text.now c.utf8.text)
