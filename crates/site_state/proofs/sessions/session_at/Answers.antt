use Rattle.std.proofs.Common.{Some, ◌∙◌}
use Rattle.site_words.specs.Ids.{is_id}
use Rattle.site_state.specs.ReadSessions.{named}
use Rattle.site_state.proofs.SessionLemmas.{found_by, none_either, none_if, some_if}
use Rattle.site_state.proofs.sessions.session_at.Goals as goal

pub returns-in_default : goal.returns-in_default
returns-in_default c =
    let number = c.number_in_id-number.result in
    none_either (is_id c.args.seed number c.args.cookie.now) (named number c.args.sessions.now) c.in_default.ensures.session
    ∙ found_by c.args.seed c.args.cookie.now number c.args.sessions.now c.get.ensures.numbers (c.number_in_id-number.ensures c.args.seed)

pub returns-then-is_id : goal.returns-then-is_id
returns-then-is_id c =
    let number = c.number_in_id-number.result in
    some_if (is_id c.args.seed number c.args.cookie.now) c.is_id.result (Some c.in-Some.session) (named number c.args.sessions.now) c.is_id.ensures c.if-is_id.true c.in-Some.ensures.session
    ∙ found_by c.args.seed c.args.cookie.now number c.args.sessions.now c.get.ensures.numbers (c.number_in_id-number.ensures c.args.seed)

pub returns-else-is_id : goal.returns-else-is_id
returns-else-is_id c =
    let number = c.number_in_id-number.result in
    none_if (is_id c.args.seed number c.args.cookie.now) c.is_id.result (named number c.args.sessions.now) c.is_id.ensures c.if-is_id.false
    ∙ found_by c.args.seed c.args.cookie.now number c.args.sessions.now c.get.ensures.numbers (c.number_in_id-number.ensures c.args.seed)
