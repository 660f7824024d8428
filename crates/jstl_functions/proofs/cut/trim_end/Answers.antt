use Rattle.std.proofs.Common.{◌-◌, length, sym, ap, ◌∙◌, subst}
use Rattle.std.specs.List.{suffix_len}
use Rattle.std.specs.Str.{IsCharBoundary}
use Rattle.jstl_functions.specs.Texts.{is_low}
use Rattle.jstl_functions.proofs.Low.{low_end_cut}
use Rattle.jstl_functions.proofs.cut.trim_end.Goals as goal

pub split_at-requires : goal.split_at-requires
split_at-requires c =
    subst (λ low. IsCharBoundary c.args.text.now (length c.args.text.now - low)) (sym (c.low_end.ensures.value ∙ ap (suffix_len is_low) c.as_bytes.ensures.value)) (low_end_cut c.args.text.now)
