use Rattle.std.proofs.Common.{◌≡◌, ◌∙◌, ap}
use Rattle.std.proofs.lemmas.List.{take_rest}
use Rattle.percent_encoding.specs.Percent.{percent_decode}
use Rattle.editor.specs.Message.{named_path}
use Rattle.editor.proofs.naming.file_path.Goals as goal

pub returns : goal.returns
returns c =
    let decoded : c.deref.result.now ≡ named_path c.args.target.now =
    c.deref.ensures.value ∙ c.in_ok-append_to.ensures.ok ∙ (rw c.new-decoded.ensures.items (c.percent_decode.ensures.bytes ∙ ap percent_decode (take_rest c.args.target.now 14))) in
    rw decoded at c.path_in.ensures
