use Rattle.std.proofs.Common.{◌≡◌, ◌∙◌, true, subst, sym}
use Rattle.compiled_pages.specs.Pages.{needs_at}
use Rattle.journal_audit.proofs.Judges.{first_again, opened_if}
use Rattle.journal_entries.specs.Again.{IsAgain}
use Rattle.site_words.specs.Law.{Legal}
use Rattle.site_words.specs.Opening.{is_sound}
use Rattle.journal_audit.proofs.judging.judge_opened.Goals as goal

pub judge_talk-requires : goal.judge_talk-requires
judge_talk-requires c =
    let first_is = first_again needs_at c.args.opening c.in_ok-site.site.opening c.in_ok-first.first c.in_ok-site.site.history c.in_ok-site.ensures.0 c.in_ok-site.ensures.1 c.in_ok-first.ensures in
    subst (λ y. is_sound y ≡ true) (sym first_is) c.requires.sound

pub returns-in-Legal : goal.returns-in-Legal
returns-in-Legal c =
    let first_is = first_again needs_at c.args.opening c.in_ok-site.site.opening c.in_ok-first.first c.in_ok-site.site.history c.in_ok-site.ensures.0 c.in_ok-site.ensures.1 c.in_ok-first.ensures in
    let again = subst (IsAgain needs_at c.in_ok-site.site.opening c.args.history c.do_again.new.site.history) c.in-Legal.is c.in_ok-place.ensures.again in
    opened_if needs_at c.args.opening c.in_ok-first.first c.do_again.new.site.opening c.args.history c.do_again.new.site.history c.args.talk c.judge_talk.result c.requires.rolls first_is
    (c.in_ok-place.ensures.opening ∙ c.in_ok-site.ensures.0) again.1 (subst (λ y. Legal needs_at y c.args.history) c.in_ok-site.ensures.0 again.0) c.judge_talk.ensures
