use Rattle.std.proofs.Common.{ℕ, ◌<◌, length, ◌∙◌, ap, arith, is_some, subst, sym}
use Rattle.std.specs.List.{range_with_len}
use Rattle.std.proofs.lemmas.List.FromFn.{length-map-range_with_len}
use Rattle.site_shared.proofs.Passes.{passes_few}
use Rattle.turn_table.specs.Passes.{newcomer}
use Rattle.site_words.specs.declared.words.Opening.{Opening}
use Rattle.site_rounds.specs.Ready.{numbers_of}
use Rattle.site_rounds.specs.Served.{IsServed}
use Rattle.site_rounds.proofs.Passes.{are_all, newcomer_numbers}
use Rattle.site_rounds.proofs.Served.{each_served, goes_on, have_seen}
use Rattle.site_rounds.proofs.rounds.round.Goals as goal

pub served-requires-clause-some : goal.served-requires-clause-some
served-requires-clause-some g c κs within =
    let few = (passes_few c.args.site.opening c.law.ensures.sound).0 in
    let same = c.in_ok-shared.ensures.site.0 in
    let len = ap length c.in_ok-shared.ensures.passes ∙ length-map-range_with_len (newcomer c.in_ok-shared.shared c.args.site.history) 0 c.in_ok-shared.shared.passes in
    omega arith

pub close-site-requires : goal.close-site-requires
close-site-requires g c = are_all c.in_ok-shared.shared c.in_ok-passes.passes.items c.in_ok-passes.ensures.ready (c.in_ok-passes.ensures.numbers ∙ ap numbers_of c.in_ok-shared.ensures.passes ∙ newcomer_numbers c.in_ok-shared.shared c.args.site.history)

pub served-requires-clause-in_order : goal.served-requires-clause-in_order
served-requires-clause-in_order g c κs within =
    let same = c.in_ok-shared.ensures.site in
    ap numbers_of c.in_ok-shared.ensures.passes ∙ newcomer_numbers c.in_ok-shared.shared c.args.site.history ∙ ap (range_with_len 0) (same.0 ∙ sym (ap (λ (x : Opening). x.passes) same.1))

pub returns-clause-served : goal.returns-clause-served
returns-clause-served g c =
    let same = c.in_ok-shared.ensures.site in
    let x = c.in_ok-shared.shared.opening in
    let drafts = is_some c.args.service.listeners.now.previews in
    let many = same.0 ∙ sym (ap (λ (y : Opening). y.passes) same.1) in
    let there = are_all c.in_ok-shared.shared c.in_ok-passes.passes.items c.in_ok-passes.ensures.ready (c.in_ok-passes.ensures.numbers ∙ ap numbers_of c.in_ok-shared.ensures.passes ∙ newcomer_numbers c.in_ok-shared.shared c.args.site.history) in
    let led = c.in_ok-passes.ensures.led c.args.site.history (have_seen c.in_ok-shared.shared c.args.site.history c.in_ok-shared.passes.items c.in_ok-shared.ensures.passes) in
    subst (λ (y : Opening). (number : ℕ) → number < y.passes → IsServed (λ talk. g.T.Talk.talked talk y) c.args.service.talks.now drafts g.P.Compiled.needs y number c.args.site.history c.close-site.result.history) same.1
    (λ number low. each_served (λ talk. g.T.Talk.talked talk x) c.args.service.talks.now drafts g.P.Compiled.needs x c.args.site.history c.close-site.result.history c.in_ok-passes.passes.items number (there.each number (omega (arith, low, many))) led c.close-site.ensures.passes)

pub returns-clause-goes_on : goal.returns-clause-goes_on
returns-clause-goes_on g c =
    goes_on (λ talk. g.T.Talk.talked talk c.args.site.opening) c.args.service.talks.now (is_some c.args.service.listeners.now.previews) g.P.Compiled.needs c.args.site.opening 0 c.args.site.history c.close-site.result.history
    (returns-clause-served g c 0 (passes_few c.args.site.opening c.law.ensures.sound).0)
