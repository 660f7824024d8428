use Rattle.std.proofs.Common.{subst, sym, ap, ◌∙◌, map}
use Rattle.std.specs.Char.{to_ascii_lowercase}
use Rattle.std.specs.Prelude.{IsUtf8}
use Rattle.http_in.proofs.Tokens.{lower_is_text, token_is_text}
use Rattle.http_in.proofs.fields.lower_name.Goals as goal

pub text_of-requires : goal.text_of-requires
text_of-requires c = token_is_text c.args.name.now c.requires

pub text_of-requires-2 : goal.text_of-requires-2
text_of-requires-2 c =
    let lower = c.make_ascii_lowercase.ensures.after ∙ ap (map to_ascii_lowercase) c.copy_from_slice.ensures.after in
    subst IsUtf8 (sym lower) (lower_is_text c.args.name.now c.requires)
