use Rattle.std.proofs.Common.{◌≡◌, take, sym, ap, ◌∙◌, subst}
use Rattle.std.specs.List.{prefix_len}
use Rattle.std.specs.Str.{IsCharBoundary}
use Rattle.pg_text.specs.Escape.{escaped, is_plain}
use Rattle.pg_text.proofs.Escaped.{front_plain, plain_cut}
use Rattle.pg_text.proofs.escape.split_marked.Goals as goal

pub split_at-requires : goal.split_at-requires
split_at-requires c = subst (IsCharBoundary c.args.text.now) (sym (c.plain_len.ensures.value ∙ ap (prefix_len is_plain) c.as_bytes.ensures.value)) (plain_cut c.args.text.now)

pub returns-clause-plain : goal.returns-clause-plain
returns-clause-plain c =
    let front : c.split_at.result.0.now ≡ take (prefix_len is_plain c.args.text.now) c.args.text.now =
    c.split_at.ensures.front ∙ ap (λ n. take n c.args.text.now) (c.plain_len.ensures.value ∙ ap (prefix_len is_plain) c.as_bytes.ensures.value) in
    ap escaped front ∙ front_plain c.args.text.now ∙ sym front
