use Rattle.std.proofs.Common.{length, take, sym, subst, ap, arith}
use Rattle.std.specs.Prelude.{flat_map}
use Rattle.std.proofs.lemmas.Iterator.Consumers.{YieldsList-end, YieldsList-from_first, YieldsList-turn}
use Rattle.std.proofs.lemmas.List.{length_push}
use Rattle.site_journal.specs.Journal.{of_entry}
use Rattle.site_journal.specs.Reading.{HasParts}
use Rattle.site_journal.proofs.Parts.{each_all, each_next}
use Rattle.site_journal.proofs.Written.{writes_all, writes_next}
use Rattle.site_words.specs.Trees.{Each}
use Rattle.sink_buffer.proofs.Writing.{writes_none, writes_same}
use Rattle.site_journal.proofs.entries.put_entries.Goals as goal

pub loop-entry-init : goal.loop-entry-init
loop-entry-init g c = record { written = writes_none _ _ _; can_be = tt }

pub loop-entry-preserved : goal.loop-entry-preserved
loop-entry-preserved g c =
    let at = c.loop-entry in
    let entries = c.args.history.now.items in
    let turn = YieldsList-turn (YieldsList-from_first (λ e. e.now) (λ i. i) entries cc) at.yielded _ at.yielded_by _ _ c.in-Some.entry c.in-Some.is c.next.ensures.steps in
    let longer = sym (length_push at.yielded c.in-Some.entry) in
    record {
      written = writes_same (ap (λ n. flat_map of_entry (take n entries)) longer) (writes_next of_entry entries (length at.yielded) c.in-Some.entry.now turn.0 turn.1 at.invariant.written c.put.ensures.writes);
      can_be = subst (λ n. Each HasParts (take n entries)) longer (each_next HasParts entries (length at.yielded) c.in-Some.entry.now turn.0 turn.1 at.invariant.can_be c.put.ensures.can_be);
    }

pub returns-clause-writes : goal.returns-clause-writes
returns-clause-writes g c =
    let at = c.loop-entry in
    let entries = c.args.history.now.items in
    let end = YieldsList-end (YieldsList-from_first (λ e. e.now) (λ i. i) entries cc) at.yielded _ at.yielded_by _ _ c.in-None.is c.next.ensures.steps in
    writes_all of_entry entries (length at.yielded) (omega (arith, end.1)) at.invariant.written

pub returns-clause-can_be : goal.returns-clause-can_be
returns-clause-can_be g c =
    let at = c.loop-entry in
    let entries = c.args.history.now.items in
    let end = YieldsList-end (YieldsList-from_first (λ e. e.now) (λ i. i) entries cc) at.yielded _ at.yielded_by _ _ c.in-None.is c.next.ensures.steps in
    each_all HasParts entries (length at.yielded) (omega (arith, end.1)) at.invariant.can_be
