use Rattle.std.proofs.Common.{◌∙◌, ap, subst, sym}
use Rattle.compiled_pages.specs.Pages.{needs_at}
use Rattle.journal_entries.proofs.Entries.{has_place, keeps_bases, no_roll}
use Rattle.journal_entries.specs.Bases.{AreBases, base_in, bases_with}
use Rattle.site_words.proofs.Legal.{fits_may}
use Rattle.site_words.specs.State.{after}
use Rattle.journal_entries.proofs.entry.do_entry.Goals as goal

pub apply-requires-clause-may : goal.apply-requires-clause-may
apply-requires-clause-may c =
    fits_may needs_at c.args.site.now.opening c.args.site.now.history c.args.entry.pass c.args.entry.op c.law.ensures.legal (no_roll c.args.entry c.requires.acts) (sym c.if-not-fits.ensures)

pub keep_base-requires : goal.keep_base-requires
keep_base-requires c = has_place needs_at c.args.site.now.opening c.args.site.now.history c.args.bases.now c.args.entry.pass c.args.entry.op (sym c.if-not-fits.ensures) c.requires.bases

pub returns-in-Did-clause-bases : goal.returns-in-Did-clause-bases
returns-in-Did-clause-bases c =
    let pass = c.args.entry.pass in
    let o = c.args.entry.op in
    let bases = c.args.bases.now in
    let kept = keeps_bases needs_at _ c.args.site.now c.apply.new.self pass o c.in-Did.field-0 bases c.law.ensures.sound c.law.ensures.legal c.in-Did.ensures.applies.0 c.in-Did.ensures.applies.1 c.requires.bases in
    let same = c.keep_base.ensures ∙ ap (λ b. bases_with b (base_in c.in-Did.field-0.gift) pass bases) c.is_begin-begins.ensures in
    λ is. subst (AreBases (after needs_at c.apply.new.self.opening c.apply.new.self.history).runs) (sym same) kept
