-- What is known where a request couldn't be read as a message.
use Rattle.std.proofs.Common.{◌≡◌, ℕ, List, refl}
use Rattle.std.specs.Prelude.{Result, Ok, Err}
use Rattle.edges.proofs.Own.{front_same}
use Rattle.pg_text.specs.declared.failure.Failure.{Failure}
use Rattle.pg_text.specs.declared.failure.Failure.TheVariants.{NoMemory, Fault}
use Rattle.pg_text.specs.Failure.{Answers}
use Rattle.source_tree.specs.declared.edit.Edit.{Edit}
use Rattle.site_words.specs.declared.words.Entry.{Entry}
use Rattle.site_words.specs.declared.words.Opening.{Opening}
use Rattle.site_words.specs.Law.{Legal}
use Rattle.site_words.specs.Trees.{Needs}
use Rattle.editor.specs.declared.fault.EditorFault.{EditorFault}
use Rattle.editor.specs.declared.message.Message.{Message}
use Rattle.editor.specs.declared.message.Message.TheVariants.{Change, Publish}
use Rattle.editor.specs.Taking.{Takes}

-- a request that isn't read has its fault for an answer, or memory ran out; the draft and what was
-- seen are as they were
pub unread : (needs : Needs) (x : Opening) (pass : ℕ) (said : Result Message EditorFault) (draft : List Edit) (seen : List Entry) (failure : Failure EditorFault)
    → Legal needs x seen → Answers {A = Message} said (Err failure) → Takes needs x pass said draft draft seen seen (Err failure)
unread needs x pass (Ok (Publish base)) draft seen NoMemory legal is = record { stays = record { longer = front_same seen; same = refl; is_legal = legal }; kept = refl }
unread needs x pass (Ok (Publish base)) draft seen (Fault found) legal is = absurd (cc)
unread needs x pass (Ok (Change edit)) draft seen NoMemory legal is = record { answers = tt; change = refl; unasked = refl }
unread needs x pass (Ok (Change edit)) draft seen (Fault found) legal is = absurd (cc)
unread needs x pass (Err fault) draft seen NoMemory legal is = record { answers = tt; change = refl; unasked = refl }
unread needs x pass (Err fault) draft seen (Fault found) legal is = record { answers = cc; change = refl; unasked = refl }
