use Rattle.std.proofs.Common.{◌≡◌, ◌+◌, All, length, map, ap, arith, sym, subst, ◌∙◌}
use Rattle.contexts.specs.Sites.{Rests}
use Rattle.pages_serve.proofs.Started.{all_rest, have_enough, have_passes, length_sites}
use Rattle.pages_serve.proofs.several.serve_contexts.Goals as goal

pub share-requires : goal.share-requires
share-requires g c =
    subst (All Rests) (sym c.in_ok-contexts.ensures) (all_rest c.args.settings.now.seed (c.args.settings.now.workers + 1) (length c.args.names.now))

pub serve_shared-requires-clause-many : goal.serve_shared-requires-clause-many
serve_shared-requires-clause-many g c κs within =
    ap length c.deref.ensures.value ∙ c.in_ok-sites.ensures.count ∙ ap length c.in_ok-contexts.ensures ∙ length_sites c.args.settings.now.seed (c.args.settings.now.workers + 1) (length c.args.names.now)

pub serve_shared-requires-clause-enough : goal.serve_shared-requires-clause-enough
serve_shared-requires-clause-enough g c κs within =
    let workers = c.args.settings.now.workers in
    let lent : c.deref_mut.result.now ≡ c.in_ok-sites.field-0.passes.items = c.deref_mut.ensures.value in
    have_enough (1 + workers) (workers + 1) (map (λ own. own.items) c.deref_mut.result.now) (omega arith)
    (have_passes c.args.settings.now.seed (workers + 1) (length c.args.names.now) (map (λ own. own.items) c.deref_mut.result.now)
    (ap (λ lists. map length (map (λ own. own.items) lists)) lent ∙ c.in_ok-sites.ensures.passes ∙ ap (map (λ site. site.opening.passes)) c.in_ok-contexts.ensures))
