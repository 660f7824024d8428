use denote.Exit.{yes}
use denote.Param.Send.{arg_send, param_send}
use Rattle.std.proofs.Common.{is_some}
use Rattle.std.proofs.lemmas.Result.{IfOk-weaker}
use Rattle.compiled_pages.proofs.MadeCross.{made_send, made_sync}
use Rattle.compiled_pages.specs.Pages.{needs_at}
use Rattle.pages_serve.specs.Talked.{HasTalked, audiences}
use Rattle.site_rounds.proofs.ByKind.{served_by_kind}
use Rattle.pages_serve.proofs.pages_round.serve_round.Goals as goal

pub round-requires-send-P : goal.round-requires-send-P
round-requires-send-P g c κs within = param_send 0 _ (arg_send _ yes _ made_send)

pub round-requires-sync-P : goal.round-requires-sync-P
round-requires-sync-P g c κs within = record { shared = made_sync.shared }

pub returns-clause-served : goal.returns-clause-served
returns-clause-served g c =
    let x = c.args.site.opening in
    IfOk-weaker c.round.result _ _
    (λ after served number low. served_by_kind (λ pages. pages.audience) c.talks_of-talks.result audiences c.talks_of-talks.ensures.readers c.talks_of-talks.ensures.editors c.talks_of-talks.ensures.previews
    (λ audience. HasTalked audience x) (is_some c.args.listeners.now.previews) needs_at x number c.args.site.history after.history (served number low))
    c.round.ensures.served
