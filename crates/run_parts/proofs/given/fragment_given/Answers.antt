use Rattle.std.proofs.Common.{◌≡◌, ◌+◌, ◌∷◌, ap, arith, drop, sym, ◌∙◌}
use Rattle.std.proofs.lemmas.List.{drop_more}
use Rattle.std.specs.Str.{bytes_eq}
use Rattle.page_code.specs.Calls.{fragments_size}
use Rattle.run_parts.proofs.GivenLemmas.{fragment_behind, given_first, given_is, given_rest}
use Rattle.run_parts.proofs.given.fragment_given.Goals as goal

pub returns-then-eq : goal.returns-then-eq
returns-then-eq c =
    let f = c.fragment-item.result in
    let all = c.args.call.now.fragments.now in
    let rest = drop (c.loop-fragment.fragment-index + 1) all in
    let at = drop_more all c.loop-fragment.fragment-index f (omega arith) ∙ ap (λ x. x ∷ rest) (sym c.fragment-item.is) in
    let same = ap (λ a. bytes_eq a f.name) (sym c.as_str.ensures) ∙ ap (bytes_eq c.as_str.result.now) (sym c.as_str-in-loop-fragment.ensures) ∙ sym c.eq.ensures ∙ c.if-eq.true in
    sym (given_is c.args.name.now c.args.call.now.body.now all c.args.call.now.behind
    ∙ ap (λ n. fragment_behind c.args.name.now (c.args.call.now.behind + n) all) (sym c.size_of_body.ensures)
    ∙ sym c.loop-fragment.invariant.same
    ∙ ap (fragment_behind c.args.name.now c.loop-fragment.at) at
    ∙ given_first c.args.name.now c.loop-fragment.at f rest same)

pub loop-fragment-preserved : goal.loop-fragment-preserved
loop-fragment-preserved c =
    let f = c.fragment-item.result in
    let all = c.args.call.now.fragments.now in
    let rest = drop (c.loop-fragment.fragment-index + 1) all in
    let at = drop_more all c.loop-fragment.fragment-index f (omega arith) ∙ ap (λ x. x ∷ rest) (sym c.fragment-item.is) in
    let sizes : fragments_size (drop c.loop-fragment.fragment-index all) ≡ f.size + fragments_size rest = ap fragments_size at in
    let same = ap (λ a. bytes_eq a f.name) (sym c.as_str.ensures) ∙ ap (bytes_eq c.as_str.result.now) (sym c.as_str-in-loop-fragment.ensures) ∙ sym c.eq.ensures ∙ c.if-eq.false in
    record {
      within = omega (arith, sizes, c.loop-fragment.invariant.within);
      same = sym (given_rest c.args.name.now c.loop-fragment.at f rest same) ∙ ap (fragment_behind c.args.name.now c.loop-fragment.at) (sym at) ∙ c.loop-fragment.invariant.same;
    }
