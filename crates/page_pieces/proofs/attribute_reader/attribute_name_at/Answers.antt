use Rattle.std.proofs.Common.{sym, ap, ◌∙◌, Ok}
use Rattle.page_pieces.proofs.Heads.AttributeNames.{is_prefixed, prefixed_name}
use Rattle.page_pieces.proofs.attribute_reader.attribute_name_at.Goals as goal

pub split_at-requires : goal.split_at-requires
split_at-requires c = (is_prefixed c.args.text.now c.in_ok-first.first.now c.in_ok-first.rest.now c.in-Some.local.now c.in_ok-local.local.now c.in_ok-local.rest.now c.utf8.text (sym c.in_ok-first.ensures.value) (sym c.in-Some.ensures.value) (sym c.in_ok-local.ensures.value)).boundary

pub returns-clause-value : goal.returns-clause-value
returns-clause-value c =
    let prefixed = is_prefixed c.args.text.now c.in_ok-first.first.now c.in_ok-first.rest.now c.in-Some.local.now c.in_ok-local.local.now c.in_ok-local.rest.now c.utf8.text (sym c.in_ok-first.ensures.value) (sym c.in-Some.ensures.value) (sym c.in_ok-local.ensures.value) in
    ap (λ name. Ok (name, c.in_ok-local.rest.now)) (c.split_at.ensures.front ∙ prefixed.taken)
    ∙ sym (prefixed_name c.args.text.now c.in_ok-first.first.now c.in_ok-first.rest.now c.in-Some.local.now c.in_ok-local.local.now c.in_ok-local.rest.now (sym c.in_ok-first.ensures.value) (sym c.in-Some.ensures.value) (sym c.in_ok-local.ensures.value))
