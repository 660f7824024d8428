use Rattle.std.proofs.Common.{◌≤◌, length, sym, subst}
use Rattle.std.specs.Char.{is_ascii_digit}
use Rattle.std.proofs.lemmas.List.Sums.{prefix_len-le-length}
use Rattle.page_directives.proofs.buffers.kilobytes.Goals as goal

pub split_at-requires : goal.split_at-requires
split_at-requires c = subst (λ n. n ≤ length c.args.text.now) (sym c.requires) (prefix_len-le-length is_ascii_digit c.args.text.now)
