use Rattle.std.proofs.Common.{refl}
use Rattle.std.proofs.lemmas.Str.{is_utf8-from_IsUtf8}
use Rattle.editor.specs.Message.{is_file_path}
use Rattle.editor.proofs.TextLemmas.{no_text}
use Rattle.editor.proofs.naming.path_in.Goals as goal

pub returns-in_default : goal.returns-in_default
unfolding is_file_path
returns-in_default c = rw (no_text c.args.bytes.now c.in_default.ensures.cases.0) refl

pub returns : goal.returns
unfolding is_file_path
returns c =
    let text = c.in-Ok.ensures.cases in
    rw (is_utf8-from_IsUtf8 c.args.bytes.now text.1) (rw text.0 at c.own_path.ensures)
