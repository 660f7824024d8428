use Rattle.std.proofs.Common.{◌++◌, ap, ◌∙◌}
use Rattle.load_gen.specs.Messages.{message_text, page_put}
use Rattle.load_gen.proofs.SentLemmas.{grown, sent_one_more}
use Rattle.load_gen.proofs.generated.add_pages.Goals as goal

pub loop-page-preserved : goal.loop-page-preserved
loop-page-preserved c =
    let added = c.in_ok-add_message.ensures ∙ ap (λ m. c.loop-page.bytes.items ++ message_text m) c.in_ok-message.ensures in
    grown _ _ _ (message_text (page_put c.loop-page.page)) _ _ added c.loop-page.invariant (sent_one_more page_put c.loop-page.page)
