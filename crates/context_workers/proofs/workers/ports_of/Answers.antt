use Rattle.std.proofs.Common.{◌≡◌, ◌<◌, ◌++◌, [], ◌∷◌, All, Some, length, map, ap, arith, refl, subst, sym, take, ◌∙◌}
use Rattle.std.proofs.lemmas.List.{map-append, take_more}
use Rattle.std.proofs.lemmas.List.Elements.{All-push}
use Rattle.std.proofs.lemmas.Option.{slice_get_read}
use Rattle.std.specs.List.{slice_get}
use Rattle.pass_course.specs.Course.{IsIdle}
use Rattle.site_rounds.specs.Ready.{IsReady}
use Rattle.context_workers.proofs.Taken.{left_seated, taken_fits, taken_next}
use Rattle.context_workers.proofs.workers.ports_of.Goals as goal

pub port-requires : goal.port-requires
port-requires g c =
    let at = c.loop-context in
    let within : at.context < length (map (λ own. own.items) at.passes) = omega (arith, at.invariant.seated.as_many, c.loop-context-test.true) in
    (taken_fits at.context (map (λ own. own.items) at.passes) (map (λ own. own.items) c.take_last.new.lists) c.take_last.result c.take_last.ensures within IsReady c.args.sites.now at.invariant.seated c.index-sites-context.result
    (slice_get_read c.args.sites.now (length c.args.sites.now) at.context c.index-sites-context.result refl c.loop-context-test.true c.index-sites-context.is)).0

pub loop-context-preserved : goal.loop-context-preserved
loop-context-preserved g c =
    let at = c.loop-context in
    let within : at.context < length (map (λ own. own.items) at.passes) = omega (arith, at.invariant.seated.as_many, c.loop-context-test.true) in
    let fits = taken_fits at.context (map (λ own. own.items) at.passes) (map (λ own. own.items) c.take_last.new.lists) c.take_last.result c.take_last.ensures within IsReady c.args.sites.now at.invariant.seated c.port.result.actor.site.now
    (subst (λ site. slice_get c.args.sites.now at.context ≡ Some site) (sym c.port.ensures.site) (slice_get_read c.args.sites.now (length c.args.sites.now) at.context c.index-sites-context.result refl c.loop-context-test.true c.index-sites-context.is)) in
    let items : c.push.new.self.ports.items ≡ at.ports.ports.items ++ c.port.result ∷ [] = c.in_ok-push.ensures.ok in
    record {
      seated = left_seated at.context (map (λ own. own.items) at.passes) (map (λ own. own.items) c.take_last.new.lists) c.take_last.result c.take_last.ensures within IsReady c.args.sites.now at.invariant.seated;
      taken = taken_next at.context (map (λ own. own.items) at.passes) (map (λ own. own.items) c.take_last.new.lists) c.take_last.result c.take_last.ensures within (map (λ own. own.items) c.args.passes.now) at.invariant.taken;
      sites = ap (map (λ port. port.actor.site.now)) items ∙ map-append (λ port. port.actor.site.now) at.ports.ports.items (c.port.result ∷ [])
          ∙ ap (λ l. l ++ c.port.result.actor.site.now ∷ []) at.invariant.sites ∙ ap (λ site. take at.context c.args.sites.now ++ site ∷ []) (c.port.ensures.site ∙ c.index-sites-context.is)
          ∙ sym (take_more c.args.sites.now at.context c.index-sites-context.result c.loop-context-test.true);
      idle = subst (All (λ port. IsIdle port.actor.site.now.opening port.actor.pass.number port.actor.pass.seen)) (sym items)
          (All-push (λ port. IsIdle port.actor.site.now.opening port.actor.pass.number port.actor.pass.seen) at.ports.ports.items c.port.result at.invariant.idle (rw c.port.ensures.pass fits.1));
    }
