use Rattle.editor.proofs.DraftLemmas.{draft_more}
use Rattle.editor.proofs.draft.Draft.push.Goals as goal

pub invariant_of-self-2 : goal.invariant_of-self-2
invariant_of-self-2 c = rw c.in_ok-push.ensures.ok (draft_more _ _ c.self.inside.bytes c.text_bytes-more.result c.self.invariant.0 c.text_bytes-more.ensures (rw (← c.self.view_is) at c.requires))
