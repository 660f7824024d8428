use Rattle.std.proofs.Common.{bytes_eq, arith, ap, ◌∙◌}
use Rattle.code_forms.specs.Arranging.{found_with}
use Rattle.code_forms.proofs.ArrangingLemmas.{looked_at, within_all}
use Rattle.code_forms.proofs.arranging.last_place.Goals as goal

pub loop-at-preserved : goal.loop-at-preserved
loop-at-preserved c =
    looked_at c.args.wanted.now c.args.names.now c.loop-at.at c.loop-at.found c.found_with-found.result c.index-names-at.result (omega (arith, c.loop-at-test.true)) c.index-names-at.is
    (c.found_with-found.ensures ∙ ap (λ same. found_with c.loop-at.at c.loop-at.found same) c.eq.ensures ∙ ap (λ name. found_with c.loop-at.at c.loop-at.found (bytes_eq c.args.wanted.now name)) c.as_str.ensures)
    c.loop-at.invariant

pub returns-clause-within : goal.returns-clause-within
returns-clause-within c = within_all c.loop-at.found c.loop-at.at _ (grind arith) c.loop-at.invariant.1
