use Rattle.std.proofs.Common.{◌∙◌, [], refl, sym, subst}
use Rattle.std.proofs.lemmas.Bool.{false≢true}
use Rattle.std.proofs.lemmas.List.{nil_from_length}
use Rattle.compiled_pages.specs.Pages.{needs_at}
use Rattle.journal_entries.proofs.Histories.{fails_behind, front_acts, last_rolls, legal_behind, split_first, split_last, unrolled_is}
use Rattle.journal_entries.proofs.KeptBases.{bases_first}
use Rattle.site_journal.specs.Reading.{EndsByRoll}
use Rattle.journal_entries.proofs.again.do_again.Goals as goal

pub loop-entry-init : goal.loop-entry-init
loop-entry-init c =
    let last = c.in-Some.last in
    let rest = c.into_iter-entry-iterator.result.rest.items in
    let rest_is = c.into_iter-entry-iterator.ensures.into_iter_gives.0 in
    let split = split_first c.args.history c.into_vec-entries.result.items c.pop.new.self.items rest c.args.site.now.history last c.requires.new c.into_vec-entries.ensures c.in-Some.ensures.items rest_is in
    let whole = split_first c.args.history c.into_vec-entries.result.items c.pop.new.self.items rest [] last refl c.into_vec-entries.ensures c.in-Some.ensures.items rest_is in
    record {
      split = split;
      opening = refl;
      acts = front_acts rest last (subst EndsByRoll whole c.requires.rolls);
      bases = bases_first needs_at c.args.site.now.opening c.opening.result.now c.args.site.now.history c.in_ok-bases.bases c.requires.new c.opening.ensures c.in_ok-bases.ensures;
    }

pub may_roll-requires : goal.may_roll-requires
may_roll-requires c = record { rolls = last_rolls c.pop.new.self.items c.in-Some.last (subst EndsByRoll (sym c.into_vec-entries.ensures ∙ c.in-Some.ensures.items) c.requires.rolls) }

pub returns-then-may_roll-clause-again : goal.returns-then-may_roll-clause-again
returns-then-may_roll-clause-again c =
    let none = nil_from_length c.loop-entry.entry-iterator.rest.items (sym c.loop-entry.entry-iterator.rest.ok.0 ∙ c.in-None.ensures.steps.0) in
    let split = split_last c.args.history c.loop-entry.site.history c.loop-entry.entry-iterator.rest.items c.in-Some.last c.loop-entry.invariant.split none in (
      legal_behind needs_at c.args.site.now.opening c.loop-entry.site.opening c.args.history c.loop-entry.site.history c.in-Some.last c.loop-entry.invariant.opening split c.law-2.ensures.legal (c.if-may_roll.ensures.0 refl),
      sym (unrolled_is c.args.history c.loop-entry.site.history c.in-Some.last split),
    )

pub returns-clause-again : goal.returns-clause-again
returns-clause-again c =
    let none = nil_from_length c.loop-entry.entry-iterator.rest.items (sym c.loop-entry.entry-iterator.rest.ok.0 ∙ c.in-None.ensures.steps.0) in
    let split = split_last c.args.history c.loop-entry.site.history c.loop-entry.entry-iterator.rest.items c.in-Some.last c.loop-entry.invariant.split none in
    fails_behind needs_at c.args.site.now.opening c.loop-entry.site.opening c.args.history c.loop-entry.site.history c.in-Some.last c.len.result c.loop-entry.invariant.opening split c.len.ensures c.law-2.ensures.legal
    (λ follows. absurd (false≢true (c.if-may_roll.ensures.1 follows)))
