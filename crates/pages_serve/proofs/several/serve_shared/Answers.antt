use mir.Syntax.{named}
use denote.Exit.{yes}
use denote.Param.Send.{arg_send, param_send}
use Rattle.std.proofs.Common.{◌+◌, ◌≤◌, length, map, ap, arith, sym, ◌∙◌}
use Rattle.std.proofs.lemmas.List.Elements.{All-weaker}
use Rattle.edges.proofs.gate.OpenGate.TheSendSync as gate
use Rattle.compiled_pages.proofs.MadeCross.{made_send, made_sync}
use Rattle.context_workers.proofs.Taken.{left_over}
use Rattle.pages_serve.proofs.Cross.{pages_sync, ports_send}
use Rattle.pages_serve.proofs.Started.{as_long}
use Rattle.pages_serve.proofs.several.serve_shared.Goals as goal

pub workers_of-requires-clause-enough : goal.workers_of-requires-clause-enough
workers_of-requires-clause-enough g c =
    All-weaker (λ own. 1 + c.args.readers ≤ length own) (λ own. 1 ≤ length own) (λ own is. omega arith) (map (λ own. own.items) c.args.passes.now) c.requires.enough

pub workers_of-requires-2-clause-enough : goal.workers_of-requires-2-clause-enough
workers_of-requires-2-clause-enough g c =
    left_over 1 c.args.readers (map (λ own. own.items) c.args.passes.now) (map (λ own. own.items) c.workers_of.new.passes) c.in_ok-editors.ensures.fewer c.requires.enough

pub both-requires-send-H-Token : goal.both-requires-send-H-Token
both-requires-send-H-Token g c κs within =
    let r = c.type_bounds.sync-R in
    param_send 6 _ (arg_send _ yes _ (ports_send _ _ _ _ _ made_send made_sync gate.the_sync r))

pub both-requires-sync-H : goal.both-requires-sync-H
both-requires-sync-H g c κs within =
    let r = c.type_bounds.sync-R in
    let w = c.type_bounds.sync-W in
    record { shared = (pages_sync (record { mir = named 7; lft = _ }) _ _ r w).shared }

pub both-requires-clause-front_fits : goal.both-requires-clause-front_fits
both-requires-clause-front_fits g c κs within = λ k d low.
    (as_long (λ port. port.actor.site.now) _ c.args.sites.now (length c.args.names.now) (c.in_ok-readers.ensures.sites k d low) c.requires.many ∙ sym (ap length c.readers_of-for_readers.ensures.names), c.in_ok-readers.ensures.idle k d low)

pub both-requires-clause-back_fits : goal.both-requires-clause-back_fits
both-requires-clause-back_fits g c κs within = λ k d low.
    (as_long (λ port. port.actor.site.now) _ c.args.sites.now (length c.args.names.now) (c.in_ok-editors.ensures.sites k d low) c.requires.many ∙ sym (ap length c.editors_of-for_editors.ensures.names), c.in_ok-editors.ensures.idle k d low)
