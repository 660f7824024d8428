use Rattle.std.proofs.Common.{◌∙◌, sym}
use Rattle.http_in.proofs.Cookies.{id_is_text}
use Rattle.http_in.proofs.cookie.session_of.Goals as goal

pub text_of-requires : goal.text_of-requires
text_of-requires c = id_is_text c.in-Some.value.now (sym c.can_be_id.ensures ∙ c.if-can_be_id.true)
