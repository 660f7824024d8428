use mir.Syntax.{named}
use mir.Val.{bool_byte}
use denote.Exit.{yes}
use denote.Param.Send.{arg_send, param_send}
use Rattle.std.proofs.Common.{◌≡◌, length, map, ap, arith, is_some, refl}
use Rattle.site_rounds.proofs.Loops.{as_many, longer_by}
use Rattle.site_rounds.proofs.Cross.{handler_sync, port_send}
use Rattle.site_rounds.proofs.Parted.{editors_all, parts_long, parts_whole, previews_all, readers_all}
use Rattle.site_rounds.proofs.Passes.{at_home, from_home, gathered, kept_numbers}
use Rattle.site_rounds.proofs.Served.{back_begins, few_for_drafts, front_begins, gathered_all, middle_begins, workers_led}
use Rattle.site_rounds.specs.Ready.{IsReady}
use Rattle.site_rounds.specs.Served.{IsLed}
use Rattle.site_rounds.proofs.rounds.served.Goals as goal

pub parted-requires : goal.parted-requires
parted-requires g c = let few = few_for_drafts c.is_some.result in omega (arith, few)

pub seat-requires-clause-ready : goal.seat-requires-clause-ready
seat-requires-clause-ready g c = readers_all _ c.args.passes.items c.in_ok-passes.passes.readers.items c.in_ok-passes.passes.editors.items c.in_ok-passes.passes.previews.items c.in_ok-passes.ensures (IsReady c.args.site.now) c.requires.ready

pub seat-requires-clause-empty : goal.seat-requires-clause-empty
seat-requires-clause-empty g c = c.in_ok-workers.ensures.readers.0

pub seat-requires-clause-room : goal.seat-requires-clause-room
seat-requires-clause-room g c = c.in_ok-workers.ensures.readers.1

pub seat-requires-2-clause-ready : goal.seat-requires-2-clause-ready
seat-requires-2-clause-ready g c = editors_all _ c.args.passes.items c.in_ok-passes.passes.readers.items c.in_ok-passes.passes.editors.items c.in_ok-passes.passes.previews.items c.in_ok-passes.ensures (IsReady c.args.site.now) c.requires.ready

pub seat-requires-2-clause-empty : goal.seat-requires-2-clause-empty
seat-requires-2-clause-empty g c = c.in_ok-workers.ensures.editors.0

pub seat-requires-2-clause-room : goal.seat-requires-2-clause-room
seat-requires-2-clause-room g c = c.in_ok-workers.ensures.editors.1

pub seat-requires-3-clause-ready : goal.seat-requires-3-clause-ready
seat-requires-3-clause-ready g c = previews_all _ c.args.passes.items c.in_ok-passes.passes.readers.items c.in_ok-passes.passes.editors.items c.in_ok-passes.passes.previews.items c.in_ok-passes.ensures (IsReady c.args.site.now) c.requires.ready

pub seat-requires-3-clause-empty : goal.seat-requires-3-clause-empty
seat-requires-3-clause-empty g c = c.in_ok-workers.ensures.previews.0

pub seat-requires-3-clause-room : goal.seat-requires-3-clause-room
seat-requires-3-clause-room g c = c.in_ok-workers.ensures.previews.1

pub three-readers-requires-send-H-Token : goal.three-readers-requires-send-H-Token
three-readers-requires-send-H-Token g c κs within =
    let p = c.type_bounds.send-P in
    let y = c.type_bounds.sync-P in
    let s = c.type_bounds.sync-G in
    let r = c.type_bounds.sync-R in
    param_send 6 _ (arg_send _ yes _ (port_send _ _ _ _ g.P.Compiled p y s r))

pub three-readers-requires-sync-H : goal.three-readers-requires-sync-H
three-readers-requires-sync-H g c κs within =
    let p = c.type_bounds.send-P in
    let y = c.type_bounds.sync-P in
    let s = c.type_bounds.sync-G in
    let r = c.type_bounds.sync-R in
    let t = c.type_bounds.sync-T in
    let w = c.type_bounds.sync-W in
    record { shared = (handler_sync (record { mir = named 7; lft = _ }) _ _ _ _ _ g.P.Compiled p y s r t w).shared }

pub three-readers-requires-clause-front_fits : goal.three-readers-requires-clause-front_fits
three-readers-requires-clause-front_fits g c κs within = λ k d low. let ready = c.seat.ensures.ready k d low in at_home c.args.site.now _ _ _ _ c.readers_of-for_readers.ensures.site ready.0 ready.1.1

pub three-readers-requires-clause-middle_fits : goal.three-readers-requires-clause-middle_fits
three-readers-requires-clause-middle_fits g c κs within = λ k d low. let ready = c.seat-2.ensures.ready k d low in at_home c.args.site.now _ _ _ _ c.editors_of-for_editors.ensures.site ready.0 ready.1.1

pub three-readers-requires-clause-back_fits : goal.three-readers-requires-clause-back_fits
three-readers-requires-clause-back_fits g c κs within = λ k d low. let ready = c.seat-3.ensures.ready k d low in at_home c.args.site.now _ _ _ _ c.previews_of-for_previews.ensures.site ready.0 ready.1.1

pub collect-requires-clause-idle : goal.collect-requires-clause-idle
collect-requires-clause-idle g c = λ k d low. from_home c.args.site.now _ _ _ _ c.readers_of-for_readers.ensures.site (c.three-readers.ensures.front_fits k d low)

pub collect-requires-2-clause-idle : goal.collect-requires-2-clause-idle
collect-requires-2-clause-idle g c = λ k d low. from_home c.args.site.now _ _ _ _ c.editors_of-for_editors.ensures.site (c.three-readers.ensures.middle_fits k d low)

pub collect-requires-3-clause-idle : goal.collect-requires-3-clause-idle
collect-requires-3-clause-idle g c = λ k d low. from_home c.args.site.now _ _ _ _ c.previews_of-for_previews.ensures.site (c.three-readers.ensures.back_fits k d low)

pub collect-requires-clause-room : goal.collect-requires-clause-room
collect-requires-clause-room g c =
    let none = ap length c.in_ok-after.ensures.items in
    let long = parts_long _ c.args.passes.items c.in_ok-passes.passes.readers.items c.in_ok-passes.passes.editors.items c.in_ok-passes.passes.previews.items c.in_ok-passes.ensures in
    let front = as_many (λ worker. worker.token.actor.pass.number) (λ worker. worker.token.actor.pass) c.three-readers.result.0.items c.seat.new.workers.items c.in_ok-passes.passes.readers.items c.three-readers.ensures.front_numbers c.seat.ensures.passes in
    omega (arith, none, long, front, c.in_ok-after.ensures.capacity)

pub collect-requires-2-clause-room : goal.collect-requires-2-clause-room
collect-requires-2-clause-room g c =
    let none = ap length c.in_ok-after.ensures.items in
    let long = parts_long _ c.args.passes.items c.in_ok-passes.passes.readers.items c.in_ok-passes.passes.editors.items c.in_ok-passes.passes.previews.items c.in_ok-passes.ensures in
    let front = as_many (λ worker. worker.token.actor.pass.number) (λ worker. worker.token.actor.pass) c.three-readers.result.0.items c.seat.new.workers.items c.in_ok-passes.passes.readers.items c.three-readers.ensures.front_numbers c.seat.ensures.passes in
    let front_collected = longer_by (λ worker. worker.token.actor.pass) c.in_ok-after.after.items c.collect.new.passes.items c.three-readers.result.0.items c.collect.ensures.passes in
    let middle = as_many (λ worker. worker.token.actor.pass.number) (λ worker. worker.token.actor.pass) c.three-readers.result.1.items c.seat-2.new.workers.items c.in_ok-passes.passes.editors.items c.three-readers.ensures.middle_numbers c.seat-2.ensures.passes in
    omega (arith, none, long, front, front_collected, c.collect.ensures.room, middle, c.in_ok-after.ensures.capacity)

pub collect-requires-3-clause-room : goal.collect-requires-3-clause-room
collect-requires-3-clause-room g c =
    let none = ap length c.in_ok-after.ensures.items in
    let long = parts_long _ c.args.passes.items c.in_ok-passes.passes.readers.items c.in_ok-passes.passes.editors.items c.in_ok-passes.passes.previews.items c.in_ok-passes.ensures in
    let front = as_many (λ worker. worker.token.actor.pass.number) (λ worker. worker.token.actor.pass) c.three-readers.result.0.items c.seat.new.workers.items c.in_ok-passes.passes.readers.items c.three-readers.ensures.front_numbers c.seat.ensures.passes in
    let front_collected = longer_by (λ worker. worker.token.actor.pass) c.in_ok-after.after.items c.collect.new.passes.items c.three-readers.result.0.items c.collect.ensures.passes in
    let middle = as_many (λ worker. worker.token.actor.pass.number) (λ worker. worker.token.actor.pass) c.three-readers.result.1.items c.seat-2.new.workers.items c.in_ok-passes.passes.editors.items c.three-readers.ensures.middle_numbers c.seat-2.ensures.passes in
    let middle_collected = longer_by (λ worker. worker.token.actor.pass) c.collect.new.passes.items c.collect-2.new.passes.items c.three-readers.result.1.items c.collect-2.ensures.passes in
    let back = as_many (λ worker. worker.token.actor.pass.number) (λ worker. worker.token.actor.pass) c.three-readers.result.2.items c.seat-3.new.workers.items c.in_ok-passes.passes.previews.items c.three-readers.ensures.back_numbers c.seat-3.ensures.passes in
    omega (arith, none, long, front, front_collected, c.collect.ensures.room, middle, middle_collected, c.collect-2.ensures.room, back, c.in_ok-after.ensures.capacity)

pub returns-clause-numbers : goal.returns-clause-numbers
returns-clause-numbers g c =
    gathered (map (λ worker. worker.token.actor.pass) c.three-readers.result.0.items) (map (λ worker. worker.token.actor.pass) c.three-readers.result.1.items) (map (λ worker. worker.token.actor.pass) c.three-readers.result.2.items)
    c.in_ok-passes.passes.readers.items c.in_ok-passes.passes.editors.items c.in_ok-passes.passes.previews.items c.args.passes.items
    c.in_ok-after.after.items c.collect.new.passes.items c.collect-2.new.passes.items c.collect-3.new.passes.items
    c.in_ok-after.ensures.items c.collect.ensures.passes c.collect-2.ensures.passes c.collect-3.ensures.passes
    (kept_numbers (λ worker. worker.token.actor.pass) c.seat.new.workers.items c.three-readers.result.0.items c.in_ok-passes.passes.readers.items (map (λ worker. worker.token.actor.pass) c.three-readers.result.0.items) c.seat.ensures.passes c.three-readers.ensures.front_numbers refl)
    (kept_numbers (λ worker. worker.token.actor.pass) c.seat-2.new.workers.items c.three-readers.result.1.items c.in_ok-passes.passes.editors.items (map (λ worker. worker.token.actor.pass) c.three-readers.result.1.items) c.seat-2.ensures.passes c.three-readers.ensures.middle_numbers refl)
    (kept_numbers (λ worker. worker.token.actor.pass) c.seat-3.new.workers.items c.three-readers.result.2.items c.in_ok-passes.passes.previews.items (map (λ worker. worker.token.actor.pass) c.three-readers.result.2.items) c.seat-3.ensures.passes c.three-readers.ensures.back_numbers refl)
    (parts_whole _ c.args.passes.items c.in_ok-passes.passes.readers.items c.in_ok-passes.passes.editors.items c.in_ok-passes.passes.previews.items c.in_ok-passes.ensures)

pub returns-clause-led : goal.returns-clause-led
returns-clause-led g c = λ history same.
    let talks = c.args.service.talks.now in
    let drafts = is_some c.args.service.listeners.now.previews in
    let drafts_is : bool_byte c.is_some.result ≡ bool_byte drafts = ap bool_byte c.is_some.ensures in
    let turns = c.args.site.now in
    let n = turns.opening.passes in
    let all = c.args.passes.items in
    let parts = c.in_ok-passes.ensures in
    let front = c.in_ok-passes.passes.readers.items in
    let middle = c.in_ok-passes.passes.editors.items in
    let back = c.in_ok-passes.passes.previews.items in
    let front_led = workers_led g.T.Talk.talked talks drafts n history talks.readers c.readers_of-for_readers.result.handler.talk.now turns c.readers_of-for_readers.result.handler.site.now (λ token. token.actor.pass) (λ worker. worker.token) c.seat.new.workers.items c.three-readers.result.0.items c.in_ok-passes.passes.readers.items c.readers_of-for_readers.ensures.talk c.readers_of-for_readers.ensures.site c.seat.ensures.passes
    (front_begins talks drafts n _ _ history front middle parts.others back all c.requires.in_order same parts.others_are parts.previews_are parts.readers_are parts.editors_are (omega (arith, drafts_is, few_for_drafts drafts)) refl) c.three-readers.ensures.front_worked in
    let middle_led = workers_led g.T.Talk.talked talks drafts n history talks.editors c.editors_of-for_editors.result.handler.talk.now turns c.editors_of-for_editors.result.handler.site.now (λ token. token.actor.pass) (λ worker. worker.token) c.seat-2.new.workers.items c.three-readers.result.1.items c.in_ok-passes.passes.editors.items c.editors_of-for_editors.ensures.talk c.editors_of-for_editors.ensures.site c.seat-2.ensures.passes
    (middle_begins talks drafts n _ _ history front middle parts.others back all c.requires.in_order same parts.others_are parts.previews_are parts.readers_are parts.editors_are (omega (arith, drafts_is, few_for_drafts drafts)) refl) c.three-readers.ensures.middle_worked in
    let back_led = workers_led g.T.Talk.talked talks drafts n history talks.previews c.previews_of-for_previews.result.handler.talk.now turns c.previews_of-for_previews.result.handler.site.now (λ token. token.actor.pass) (λ worker. worker.token) c.seat-3.new.workers.items c.three-readers.result.2.items c.in_ok-passes.passes.previews.items c.previews_of-for_previews.ensures.talk c.previews_of-for_previews.ensures.site c.seat-3.ensures.passes
    (back_begins talks drafts n _ _ history front middle parts.others back all c.requires.in_order same parts.others_are parts.previews_are parts.readers_are parts.editors_are (omega (arith, drafts_is, few_for_drafts drafts)) refl) c.three-readers.ensures.back_worked in
    gathered_all (λ p. IsLed (λ t. g.T.Talk.talked t turns.opening) talks drafts n p.number history p.seen)
    (map (λ worker. worker.token.actor.pass) c.three-readers.result.0.items) (map (λ worker. worker.token.actor.pass) c.three-readers.result.1.items) (map (λ worker. worker.token.actor.pass) c.three-readers.result.2.items)
    c.in_ok-after.after.items c.collect.new.passes.items c.collect-2.new.passes.items c.collect-3.new.passes.items
    c.in_ok-after.ensures.items c.collect.ensures.passes c.collect-2.ensures.passes c.collect-3.ensures.passes
    front_led middle_led back_led
