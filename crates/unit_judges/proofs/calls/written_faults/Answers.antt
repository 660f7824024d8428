use Rattle.std.proofs.Common.{◌≡◌, ◌∙◌, ◌<◌, ◌∷◌, [], length, take, ap, arith}
use Rattle.page_directives.specs.Faults.{in_order}
use Rattle.jstl_tags.specs.Content.{attribute_names}
use Rattle.unit_words.specs.Calls.{names_faults}
use Rattle.unit_judges.proofs.CallLemmas.{written_joined}
use Rattle.unit_judges.proofs.MoreLemmas.{one_more}
use Rattle.unit_judges.proofs.calls.written_faults.Goals as goal

pub loop-attribute-preserved : goal.loop-attribute-preserved
loop-attribute-preserved c =
    let attributes = c.args.attributes.now in
    let a = c.attribute-item.result in
    let i = c.loop-attribute.attribute-index in
    let decl = c.args.decl.now in
    let all = attribute_names c.args.written.now in
    let within : i < length attributes = grind arith in
    let one : c.given_faults.result ≡ in_order (names_faults decl all (a.name ∷ [])) = c.given_faults.ensures ∙ ap (λ name. in_order (names_faults decl all (name ∷ []))) c.as_str.ensures in
    c.and-faults.ensures.of (names_faults decl all (attribute_names (take i attributes))) (names_faults decl all (a.name ∷ [])) c.loop-attribute.invariant one
    ∙ ap in_order (one_more (λ xs. names_faults decl all (attribute_names xs)) (written_joined decl all) attributes i a within c.attribute-item.is)
