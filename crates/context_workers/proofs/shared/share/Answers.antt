use Rattle.std.proofs.Common.{◌≡◌, ◌++◌, [], ◌∷◌, All, length, map, ap, arith, refl, rules, subst, sym, ◌∙◌}
use Rattle.std.proofs.lemmas.List.{length-append, length-map, map-append}
use Rattle.std.proofs.lemmas.List.FromFn.{length-map-range_with_len}
use Rattle.std.specs.Vec.Iter.{into_iter_items}
use Rattle.contexts.specs.Sites.{Rests}
use Rattle.site_rounds.specs.Ready.{IsReady}
use Rattle.turn_table.specs.Passes.{newcomer}
use Rattle.site_rounds.proofs.Loops.{all_left, moved_on, nothing_left}
use Rattle.site_rounds.proofs.Passes.{are_ready}
use Rattle.context_workers.specs.Seats.{AreSeated}
use Rattle.context_workers.proofs.Lists.{all_of_map, map_twice, one_more}
use Rattle.context_workers.proofs.Seated.{none_seated, seated_more}
use Rattle.context_workers.proofs.shared.share.Goals as goal

pub loop-port-init : goal.loop-port-init
loop-port-init g c =
    let items : into_iter_items c.into_iter-port-iterator.result ≡ c.in_ok-port-items.field-0.ports.items = search rules in
    let same : map (λ port. port.actor.site) (into_iter_items c.into_iter-port-iterator.result) ≡ c.args.contexts.sites.items = ap (map (λ port. port.actor.site)) items ∙ c.in_ok-port-items.ensures in
    let no_sites : c.new-sites.result.items ≡ [] = search rules in
    let no_passes : c.new-passes.result.items ≡ [] = search rules in
    record {
      split = same;
      len = search rules;
      left = all_of_map Rests (λ port. port.actor.site) (into_iter_items c.into_iter-port-iterator.result) (subst (All Rests) (sym same) c.requires);
      count = ap length no_sites;
      seated = subst (λ all. AreSeated IsReady all (map (λ own. own.items) c.new-passes.result.items)) (sym no_sites)
          (subst (λ lists. AreSeated IsReady [] (map (λ own. own.items) lists)) (sym no_passes) (none_seated IsReady));
      passes = ap (λ lists. map length (map (λ own. own.items) lists)) no_passes;
    }

pub start-requires : goal.start-requires
start-requires g c =
    let at = c.loop-port in
    subst Rests (sym c.into_site.ensures) (all_left (λ port. Rests port.actor.site) (into_iter_items at.port-iterator) (into_iter_items c.next.new.self) c.in-Some.port c.in-Some.ensures.steps.0 at.invariant.left).0

pub loop-port-preserved : goal.loop-port-preserved
loop-port-preserved g c =
    let at = c.loop-port in
    let next = c.in-Some.ensures.steps.0 in
    let counts = c.in-Some.ensures.steps.1 in
    let left = all_left (λ port. Rests port.actor.site) (into_iter_items at.port-iterator) (into_iter_items c.next.new.self) c.in-Some.port next at.invariant.left in
    let started = c.in_ok-site.ensures in
    let sites : c.push.new.self.items ≡ at.sites.items ++ c.in_ok-site.site ∷ [] = c.in_ok-push.ensures.items in
    let passes : c.push-in-loop-port.new.self.items ≡ at.passes.items ++ c.in_ok-site.own ∷ [] = c.in_ok-push-2.ensures.items in
    let lists : map (λ own. own.items) c.push-in-loop-port.new.self.items ≡ map (λ own. own.items) at.passes.items ++ c.in_ok-site.own.items ∷ [] = ap (map (λ own. own.items)) passes ∙ map-append (λ own. own.items) at.passes.items (c.in_ok-site.own ∷ []) in
    let ready = are_ready c.in_ok-site.site c.into_site.result.opening c.in_ok-site.own.items started.site.1 started.from started.idle in
    let as_many : length c.in_ok-site.own.items ≡ c.in-Some.port.actor.site.opening.passes =
    ap length started.passes ∙ length-map-range_with_len (newcomer c.in_ok-site.site c.into_site.result.history) 0 c.in_ok-site.site.passes ∙ started.site.0 ∙ ap (λ site. site.opening.passes) c.into_site.ensures in
    record {
      split = ap (map (λ port. port.actor.site)) (moved_on at.yielded (into_iter_items at.port-iterator) (into_iter_items c.next.new.self) (at.yielded ++ into_iter_items at.port-iterator) c.in-Some.port next refl) ∙ at.invariant.split;
      len = let short = ap length next in let was = at.invariant.len in omega arith;
      left = left.1;
      count =
          let new_sites = ap length sites in
          let sum = length-append at.sites.items (c.in_ok-site.site ∷ []) in
          let done = length-append at.yielded (c.in-Some.port ∷ []) in
          omega (arith, at.invariant.count);
      seated = subst (λ all. AreSeated IsReady all (map (λ own. own.items) c.push-in-loop-port.new.self.items)) (sym sites)
          (subst (AreSeated IsReady (at.sites.items ++ c.in_ok-site.site ∷ [])) (sym lists)
          (seated_more IsReady at.sites.items (map (λ own. own.items) at.passes.items) c.in_ok-site.site c.in_ok-site.own.items at.invariant.seated ready));
      passes = one_more (λ own. own.items) length (λ port. port.actor.site.opening.passes) at.passes.items c.push-in-loop-port.new.self.items c.in_ok-site.own at.yielded c.in-Some.port passes at.invariant.passes as_many;
    }

pub returns-clause-count : goal.returns-clause-count
returns-clause-count g c =
    let at = c.loop-port in
    let done = nothing_left at.yielded (into_iter_items at.port-iterator) (at.yielded ++ into_iter_items at.port-iterator) (omega (arith, at.invariant.len, c.in-None.ensures.steps.0)) refl in
    let whole : map (λ port. port.actor.site) at.yielded ≡ c.args.contexts.sites.items = ap (map (λ port. port.actor.site)) done ∙ at.invariant.split in
    at.invariant.count ∙ sym (length-map at.yielded (λ port. port.actor.site)) ∙ ap length whole

pub returns-clause-passes : goal.returns-clause-passes
returns-clause-passes g c =
    let at = c.loop-port in
    let done = nothing_left at.yielded (into_iter_items at.port-iterator) (at.yielded ++ into_iter_items at.port-iterator) (omega (arith, at.invariant.len, c.in-None.ensures.steps.0)) refl in
    let whole : map (λ port. port.actor.site) at.yielded ≡ c.args.contexts.sites.items = ap (map (λ port. port.actor.site)) done ∙ at.invariant.split in
    at.invariant.passes ∙ sym (map_twice (λ port. port.actor.site) (λ site. site.opening.passes) at.yielded) ∙ ap (map (λ site. site.opening.passes)) whole
