use Rattle.std.proofs.Common.{refl, sym, subst}
use Rattle.packed_entries.specs.Kinds.{Pairs}
use Rattle.site_words.specs.declared.words.Reply.{Reply}
use Rattle.site_words.specs.Law.{own}
use Rattle.site_state.specs.Gifts.{value_in}
use Rattle.site_state.specs.Parts.{parts_of, state_of}
use Rattle.site_core.specs.ReadSite.{IsSite}
use Rattle.site_core.proofs.Conditions.{can_work}
use Rattle.site_core.proofs.Next.{did, entered, has_place, refuses, sure_last, sure_slot}
use Rattle.site_core.proofs.Packing.{reply_pairs}
use Rattle.site_core.proofs.perform.perform_reserved.Goals as goal

pub act-requires : goal.act-requires
act-requires g c =
    can_work g.P.Compiled.needs g.P.Compiled.made c.args.opening.now c.args.history.now.items (parts_of c.args.held.now) c.args.history.now.room c.args.pass c.args.act.op (value_in c.args.act.made) c.requires.site c.requires.may c.requires.made

pub enter-requires-clause-pairs : goal.enter-requires-clause-pairs
enter-requires-clause-pairs g c =
    subst (λ (r : Reply). Pairs c.args.act.op r) (sym c.in-Did.ensures.works.reply_is) (reply_pairs g.P.Compiled.needs c.args.opening.now (state_of c.args.opening.now c.args.history.now.items (parts_of c.args.held.now)) c.args.pass c.args.act.op)

pub enter-requires-clause-place : goal.enter-requires-clause-place
enter-requires-clause-place g c =
    let can = can_work g.P.Compiled.needs g.P.Compiled.made c.args.opening.now c.args.history.now.items (parts_of c.args.held.now) c.args.history.now.room c.args.pass c.args.act.op (value_in c.args.act.made) c.requires.site c.requires.may c.requires.made in
    (has_place (parts_of c.args.held.now).tree (parts_of c.args.held.now).runs c.args.pass c.args.history.now.room c.args.act.op c.in-Did.done.reply can.within can.asks c.requires.room).here

pub returns-in_default-clause-site : goal.returns-in_default-clause-site
returns-in_default-clause-site g c = c.requires.site

pub returns-in_default-clause-applies : goal.returns-in_default-clause-applies
returns-in_default-clause-applies g c = refl

pub returns-in_default-clause-sure : goal.returns-in_default-clause-sure
returns-in_default-clause-sure g c = λ sure.
    let went = c.in_default.ensures.slot (sure_slot c.args.opening.now c.args.history.now.items c.args.pass (own c.args.pass c.args.history.now.items) c.args.act.op sure) in
    absurd (cc)

pub returns-in-Did-clause-site : goal.returns-in-Did-clause-site
returns-in-Did-clause-site g c =
    entered g.P.Compiled.needs g.P.Compiled.made c.args.opening.now c.args.history.now.items c.enter.new.history.items (parts_of c.args.held.now) (parts_of c.act.new.self) c.args.history.now.room c.enter.new.history.room c.args.pass c.args.act.op c.in-Did.done
    c.requires.site c.requires.may c.in-Did.ensures.works c.requires.room c.enter.ensures.items c.enter.ensures.room

pub returns-in-Did-clause-applies : goal.returns-in-Did-clause-applies
returns-in-Did-clause-applies g c =
    did g.P.Compiled.needs g.P.Compiled.made c.args.opening.now c.args.history.now.items c.enter.new.history.items (parts_of c.args.held.now) (parts_of c.act.new.self) c.args.history.now.room c.args.pass c.args.act.op c.in-Did.done c.enter.result
    c.requires.site c.in-Did.ensures.works c.enter.ensures.given c.enter.ensures.items

pub returns-in-Refused-clause-site : goal.returns-in-Refused-clause-site
returns-in-Refused-clause-site g c =
    subst (λ parts. IsSite g.P.Compiled.needs g.P.Compiled.made c.args.opening.now c.args.history.now.items parts c.args.history.now.room) (sym c.in-Refused.ensures.works.1) c.requires.site

pub returns-in-Refused-clause-applies : goal.returns-in-Refused-clause-applies
returns-in-Refused-clause-applies g c = (
  refuses g.P.Compiled.needs g.P.Compiled.made c.args.opening.now c.args.history.now.items (parts_of c.args.held.now) c.args.history.now.room c.args.pass c.args.act.op c.in-Refused.refusal c.requires.site c.in-Refused.ensures.works.0,
  refl,
)

pub returns-in-Refused-clause-sure : goal.returns-in-Refused-clause-sure
returns-in-Refused-clause-sure g c = λ sure.
    c.in-Refused.ensures.sure (sure_last c.args.opening.now c.args.history.now.items c.args.pass (own c.args.pass c.args.history.now.items) c.args.act.op sure)

pub returns-in-NoMemory-clause-site : goal.returns-in-NoMemory-clause-site
returns-in-NoMemory-clause-site g c =
    subst (λ parts. IsSite g.P.Compiled.needs g.P.Compiled.made c.args.opening.now c.args.history.now.items parts c.args.history.now.room) (sym c.in-NoMemory.ensures.works) c.requires.site

pub returns-in-NoMemory-clause-applies : goal.returns-in-NoMemory-clause-applies
returns-in-NoMemory-clause-applies g c = refl

pub returns-in-NoMemory-clause-sure : goal.returns-in-NoMemory-clause-sure
returns-in-NoMemory-clause-sure g c = λ sure.
    c.in-NoMemory.ensures.sure (sure_last c.args.opening.now c.args.history.now.items c.args.pass (own c.args.pass c.args.history.now.items) c.args.act.op sure)
