use Rattle.request_pages.proofs.PageEndLemmas.{page_ended}
use Rattle.request_pages.proofs.begun.run_begun.Goals as goal

pub returns-clause-ended : goal.returns-clause-ended
returns-clause-ended g c = λ page known origin s begins.
    let (path, made, is) = known in
    page_ended c.depth.ensures.forwards c.parts.ensures.grow _ page _ _ _ s _ _ _ _ c.run_program-end.result _ (λ t stood. stood.writer.committed) (rw c.committed.ensures at c.page_end.ensures) (c.run_program-end.ensures.meant path made page is origin s begins)

pub returns-clause-keeps : goal.returns-clause-keeps
returns-clause-keeps g c =
    let ensures = c.run_program-end.ensures in
    record { charged = ensures.charged; session = ensures.session; exception = ensures.exception }
