use Rattle.std.proofs.Common.{◌∙◌, Err, Ok, ap, arith, sym}
use Rattle.std.specs.Prelude.{map}
use Rattle.run_moves.specs.At.{seat_at}
use Rattle.run_moves.proofs.AskLemmas.{first_text, rest_seen}
use Rattle.run_moves.proofs.Forwards.{forward_adds, forward_committed, forward_deep, forward_read, forward_unasked, forward_unnamed, forward_well}
use Rattle.run_world.proofs.Exits.{err_as}
use Rattle.run_world.proofs.Parts.{short_at}
use Rattle.run_moves.proofs.leave.ask_forward.Goals as goal
use Rattle.page_table.specs.Operations.{behind_first, params_in, text_at}
use Rattle.page_table.specs.Seat.{page_run_of}
use Rattle.page_meaning.specs.Includes.{target_params}
use Rattle.pg_text.specs.declared.failure.Failure.TheVariants as failure
use Rattle.pg_value.specs.Value.{datum_of}
use Rattle.pg_value.specs.declared.fault.RunFault.TheVariants as fault

pub returns-then-has_committed-clause-does : goal.returns-then-has_committed-clause-does
returns-then-has_committed-clause-does g c = λ serving h.
    forward_committed serving c.args.left (page_run_of (seat_at c.args.at.now)) (text_at 0 (map datum_of c.args.values.now)) (params_in (behind_first (map datum_of c.args.values.now))) g.W.World.committed
    (λ first w origin s h. (g.met.W.World.tells first w origin s h).3) c.args.world.now (sym c.has_committed.ensures ∙ c.if-has_committed.true)

pub returns-in_err-path-clause-does : goal.returns-in_err-path-clause-does
returns-in_err-path-clause-does g c = λ serving h.
    let run = page_run_of (seat_at c.args.at.now) in
    let more = params_in (behind_first (map datum_of c.args.values.now)) in
    let url = c.text_of-target.ensures ∙ first_text c.args.values.now c.index-values-0.result c.requires.some c.index-values-0.is in
    err_as c.from_residual.result c.in_err-path.field-0.0 c.from_residual.ensures.1
    (forward_read serving c.args.left run more c.text_of-target.result.now (text_at 0 (map datum_of c.args.values.now)) c.args.world.now c.args.world.now (Err c.in_err-path.field-0.0) url
    (forward_unnamed serving c.args.left run c.text_of-target.result.now more g.W.World.committed (λ first w origin s h. (g.met.W.World.tells first w origin s h).3) c.args.world.now c.in_err-path.field-0.0
    (sym c.has_committed.ensures ∙ c.if-has_committed.false) c.in_err-path.ensures))

pub returns-in_default-clause-does : goal.returns-in_default-clause-does
returns-in_default-clause-does g c = λ serving h.
    let run = page_run_of (seat_at c.args.at.now) in
    let more = params_in (behind_first (map datum_of c.args.values.now)) in
    let url = c.text_of-target.ensures ∙ first_text c.args.values.now c.index-values-0.result c.requires.some c.index-values-0.is in
    forward_read serving c.args.left run more c.text_of-target.result.now (text_at 0 (map datum_of c.args.values.now)) c.args.world.now c.args.world.now (Err (failure.Fault fault.TooDeep)) url
    (forward_deep serving c.args.left run c.text_of-target.result.now more g.W.World.committed (λ first w origin s h. (g.met.W.World.tells first w origin s h).3) c.args.world.now c.in_ok-path.path
    (sym c.has_committed.ensures ∙ c.if-has_committed.false) c.in_ok-path.ensures (omega (arith, c.in_default.ensures)))

pub returns-in_err-params-clause-does : goal.returns-in_err-params-clause-does
returns-in_err-params-clause-does g c = λ serving h.
    short_at c.args.world.now c.from_residual-in_err-params.result c.from_residual-in_err-params.ensures.1
    (λ place. forward_adds serving c.args.left (page_run_of (seat_at c.args.at.now)) (text_at 0 (map datum_of c.args.values.now)) (params_in (behind_first (map datum_of c.args.values.now))) place)

pub returns-in_err-page-clause-does : goal.returns-in_err-page-clause-does
returns-in_err-page-clause-does g c = λ serving h.
    let run = page_run_of (seat_at c.args.at.now) in
    let more = params_in (behind_first (map datum_of c.args.values.now)) in
    let url = c.text_of-target.ensures ∙ first_text c.args.values.now c.index-values-0.result c.requires.some c.index-values-0.is in
    err_as c.from_residual-in_err-page.result c.in_err-page.field-0.0 c.from_residual-in_err-page.ensures.1
    (forward_read serving c.args.left run more c.text_of-target.result.now (text_at 0 (map datum_of c.args.values.now)) c.args.world.now c.page.new.self (Err c.in_err-page.field-0.0) url
    (forward_unasked serving c.args.left run c.text_of-target.result.now more g.W.World.committed (λ first w origin s h. (g.met.W.World.tells first w origin s h).3) c.args.world.now c.page.new.self c.in_ok-path.path
    (sym c.has_committed.ensures ∙ c.if-has_committed.false) c.in_ok-path.ensures c.in-Some.left c.in_err-page.field-0.0 (omega (arith, c.in-Some.ensures.0, c.in-Some.ensures.1)) (c.in_err-page.ensures.does serving h.stored)))

pub returns-clause-does : goal.returns-clause-does
returns-clause-does g c = λ serving h.
    let run = page_run_of (seat_at c.args.at.now) in
    let more = params_in (behind_first (map datum_of c.args.values.now)) in
    let url = c.text_of-target.ensures ∙ first_text c.args.values.now c.index-values-0.result c.requires.some c.index-values-0.is in
    forward_read serving c.args.left run more c.text_of-target.result.now (text_at 0 (map datum_of c.args.values.now)) c.args.world.now c.page.new.self (Ok _) url
    (forward_well serving c.args.left run c.text_of-target.result.now more g.W.World.committed (λ first w origin s h. (g.met.W.World.tells first w origin s h).3) c.args.world.now c.page.new.self c.in_ok-path.path
    (sym c.has_committed.ensures ∙ c.if-has_committed.false) c.in_ok-path.ensures c.in-Some.left c.in_ok-page.field-0 _ (omega (arith, c.in-Some.ensures.0, c.in-Some.ensures.1))
    (ap (λ ps. record { path = c.in_ok-path.path; params = ps; left = c.in-Some.left }) (c.in_ok-params.ensures ∙ ap (λ xs. target_params run c.text_of-target.result.now (params_in xs)) (rest_seen c.args.values.now)))
    (c.in_ok-page.ensures.does serving h.stored))
