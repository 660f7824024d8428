use Rattle.std.proofs.Common.{◌≡◌, Some, None, true, sym, subst}
use Rattle.std.specs.Arc.{arc_value}
use Rattle.std.specs.Prelude.{IsSome, slice_index_or}
use Rattle.compiled_pages.specs.Made.{IsMade as IsMadeOf}
use Rattle.compiled_pages.specs.Pages.{needs_at}
use Rattle.journal_entries.proofs.Offers.{has_base, kept_none, kept_some, offered}
use Rattle.site_state.specs.Gifts.{IsMade}
use Rattle.site_words.specs.Fits.{fits}
use Rattle.site_words.specs.Law.{own, run_of}
use Rattle.site_words.specs.State.{after}
use Rattle.source_tree.specs.Limits.{IsWithinLimits}
use Rattle.unit_source.specs.Files.{text_in}
use Rattle.journal_entries.proofs.making.made_for.Goals as goal

pub unreachable-requires : goal.unreachable-requires
unreachable-requires c =
    let x = c.args.site.now.opening in
    let history = c.args.site.now.history in
    let fit = subst (λ o. fits x (after needs_at x history) c.args.pass o ≡ true) c.in-Offer.is c.requires.fit in
    let has = has_base needs_at x history c.args.bases.now c.args.pass c.in-Offer.request c.in-Offer.path fit c.requires.bases in
    kept_none (slice_index_or c.args.bases.now c.args.pass None) has.under.tree has.kept c.in_default-get.ensures

pub made-requires-clause-limits : goal.made-requires-clause-limits
made-requires-clause-limits c =
    let x = c.args.site.now.opening in
    let history = c.args.site.now.history in
    let fit = subst (λ o. fits x (after needs_at x history) c.args.pass o ≡ true) c.in-Offer.is c.requires.fit in
    let has = has_base needs_at x history c.args.bases.now c.args.pass c.in-Offer.request c.in-Offer.path fit c.requires.bases in
    subst IsWithinLimits (sym (kept_some _ has.under.tree c.in-Some.tree.now has.kept c.in-Some.ensures)) has.limits

pub made-requires-clause-stands : goal.made-requires-clause-stands
made-requires-clause-stands c =
    let x = c.args.site.now.opening in
    let history = c.args.site.now.history in
    let fit = subst (λ o. fits x (after needs_at x history) c.args.pass o ≡ true) c.in-Offer.is c.requires.fit in
    let has = has_base needs_at x history c.args.bases.now c.args.pass c.in-Offer.request c.in-Offer.path fit c.requires.bases in
    subst (λ t. IsSome (text_in t c.in-Offer.path)) (sym (kept_some _ has.under.tree c.in-Some.tree.now has.kept c.in-Some.ensures)) has.stands

pub returns : goal.returns
returns c =
    let x = c.args.site.now.opening in
    let history = c.args.site.now.history in
    let fit = subst (λ o. fits x (after needs_at x history) c.args.pass o ≡ true) c.in-Offer.is c.requires.fit in
    let has = has_base needs_at x history c.args.bases.now c.args.pass c.in-Offer.request c.in-Offer.path fit c.requires.bases in
    subst (λ o. IsMade (λ value tree path. IsMadeOf value tree path) x history (run_of (own c.args.pass history)) o (Some (arc_value c.in_ok-made.field-0))) (sym c.in-Offer.is)
    (offered (λ value tree path. IsMadeOf value tree path) needs_at x history c.args.pass c.in-Offer.request c.in-Offer.path _ c.in-Some.tree.now (arc_value c.in_ok-made.field-0) c.law.ensures.legal has
    (sym c.in-Some.ensures) c.in_ok-made.ensures)
