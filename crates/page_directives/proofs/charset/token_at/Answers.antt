use Rattle.std.proofs.Common.{sym, ap, ◌∙◌, subst}
use Rattle.std.specs.List.{prefix_len}
use Rattle.std.specs.Str.{IsCharBoundary}
use Rattle.page_directives.specs.ContentType.{is_token_byte}
use Rattle.page_directives.proofs.TokenLemmas.{token_cut}
use Rattle.page_directives.proofs.charset.token_at.Goals as goal

pub split_at-requires : goal.split_at-requires
split_at-requires c = subst (IsCharBoundary c.args.text.now) (sym (c.token_len-len.ensures.value ∙ ap (prefix_len is_token_byte) c.as_bytes.ensures.value)) (token_cut c.args.text.now c.utf8.text)
