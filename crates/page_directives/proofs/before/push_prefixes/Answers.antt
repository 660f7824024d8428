use Rattle.std.proofs.Common.{◌<◌, length, get_or, subst, arith}
use Rattle.std.proofs.lemmas.Str.{IsCharBoundary-after_ascii}
use Rattle.page_directives.proofs.before.push_prefixes.Goals as goal

pub split_at-requires : goal.split_at-requires
split_at-requires c =
    let within : c.loop-i.i < length c.args.text.now = grind arith in
    let mark : get_or c.as_bytes-b-items.result.now c.loop-i.i 0 < 128 = grind arith in
    IsCharBoundary-after_ascii c.args.text.now c.loop-i.i c.utf8.text within (subst (λ t. get_or t c.loop-i.i 0 < 128) c.as_bytes-b-items.ensures.value mark)
