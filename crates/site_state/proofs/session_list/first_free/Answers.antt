use Rattle.std.proofs.Common.{◌≡◌, is_some, not, map, true, false, sym, ap, ◌∙◌}
use Rattle.std.specs.Iterator.Adapters.{rev_source}
use Rattle.site_words.specs.Sessions.{holder_of}
use Rattle.site_state.specs.Parts.{under_in}
use Rattle.site_state.proofs.UseLemmas as lemma
use Rattle.site_state.proofs.session_list.first_free.Goals as goal

pub returns-then-is_none : goal.returns-then-is_none
returns-then-is_none c =
    let free : is_some (holder_of c.in-Some.number.now (map under_in c.args.runs.now)) ≡ false = ap is_some (sym c.holder_of.ensures) ∙ (c.is_none.ensures ∙ ap not c.if-is_none.true) in
    lemma.first_free (map under_in c.args.runs.now) (rev_source c.loop-number.number-iterator) (rev_source c.next.new.self) (c.in-Some.number.now, c.in-Some.field-0-1.now) c.in-Some.ensures.steps free ∙ c.loop-number.invariant.held

pub loop-number-preserved : goal.loop-number-preserved
loop-number-preserved c =
    let held : is_some (holder_of c.in-Some.number.now (map under_in c.args.runs.now)) ≡ true = ap is_some (sym c.holder_of.ensures) ∙ (c.is_none.ensures ∙ ap not c.if-is_none.false) in
    record {
      next = tt;
      ends = tt;
      held = lemma.first_held (map under_in c.args.runs.now) (rev_source c.loop-number.number-iterator) (rev_source c.next.new.self) (c.in-Some.number.now, c.in-Some.field-0-1.now) c.in-Some.ensures.steps held ∙ c.loop-number.invariant.held;
    }
