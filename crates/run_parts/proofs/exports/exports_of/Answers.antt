use Rattle.std.proofs.Common.{◌+◌, ◌∷◌, ap, arith, drop, refl, sym, ◌∙◌}
use Rattle.std.proofs.lemmas.List.{drop_more}
use Rattle.page_meaning.specs.Exports.{exports_of}
use Rattle.run_parts.proofs.ExportLemmas.{exports_more}
use Rattle.run_parts.proofs.exports.exports_of.Goals as goal

pub loop-variable-preserved : goal.loop-variable-preserved
loop-variable-preserved c =
    let v = c.variable-item.result in
    let all = c.args.variables.now in
    let at = drop_more all c.loop-variable.variable-index v (omega arith) ∙ ap (λ x. x ∷ drop (c.loop-variable.variable-index + 1) all) (sym c.variable-item.is) in
    exports_more c.args.entries.now all c.loop-variable.variable-index v c.loop-variable.exports.items c.push.new.self.items
    (record { own = c.in_ok-copy.field-0; outer = c.in_ok-outer_name.field-0; scope = v.scope }) (exports_of c.args.entries.now all) at c.in_ok-push.ensures.items c.in_ok-copy.ensures c.in_ok-outer_name.ensures refl
    c.loop-variable.invariant
