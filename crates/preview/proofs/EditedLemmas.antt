-- What an editor's message on a preview connection comes to.
use Rattle.std.proofs.Common.{◌≡◌, ℕ, Bool, List, Option, Ok, Err, refl, ap}
use Rattle.std.specs.declared.result.Result.{Result}
use Rattle.conversation.proofs.ServedLemmas.{told_served}
use Rattle.conversation.specs.Told.{IsTold}
use Rattle.conversation.specs.Exchange.{Exchange}
use Rattle.conversation.specs.declared.desk.Outcome.{Outcome}
use Rattle.conversation.specs.declared.desk.Outcome.TheVariants.{NoMemory}
use Rattle.editor.specs.Message.{message}
use Rattle.editor.specs.Taking.{IsChanged, IsDrafted, changed, counted}
use Rattle.editor.specs.declared.answer.EditorAnswer.{EditorAnswer}
use Rattle.editor.specs.declared.answer.EditorAnswer.TheVariants as answer
use Rattle.editor.specs.declared.fault.EditorFault.{EditorFault}
use Rattle.editor.specs.declared.message.Message.{Message}
use Rattle.editor.specs.declared.message.Message.TheVariants.{Change, Publish}
use Rattle.http_in.specs.declared.request.Request.{Request}
use Rattle.http_out.specs.Methods.{shows_body}
use Rattle.pg_text.specs.Failure.{Answers}
use Rattle.pg_text.specs.declared.failure.Failure.{Failure}
use Rattle.pg_text.specs.declared.failure.Failure.TheVariants as failure
use Rattle.preview.proofs.ShownLemmas.{starved_silently}
use Rattle.preview_words.specs.Previewed.{IsEdited, IsUntold, ServedEdited, preview_stand}
use Rattle.site_words.specs.declared.words.Entry.{Entry}
use Rattle.source_tree.specs.declared.edit.Edit.{Edit}
use Rattle.talk_words.specs.Said.{taken_as, told_text}

module _ (said : Result Message EditorFault) (draft later : List Edit) (seen : List Entry) where
  -- the draft has one edit more, and the site wasn't asked
  pub count_drafts : (count : ℕ) → changed said draft ≡ Ok count → IsChanged {E = Failure EditorFault} said draft later (Ok count) → IsDrafted said draft later seen seen (Ok (answer.Drafted count))
  count_drafts count is change = record { answers = ap counted is; change = same said change; unasked = refl }
    where
      same : (said : Result Message EditorFault) → IsChanged {E = Failure EditorFault} said draft later (Ok count) → IsChanged {E = Failure EditorFault} said draft later (Ok (answer.Drafted count))
      same (Ok (Change edit)) is = is
      same (Ok (Publish base)) is = is
      same (Err found) is = is

  -- it has none, and the site wasn't asked
  pub failure_drafts : (found : Failure EditorFault) → Answers (changed said draft) (Err found) → later ≡ draft → IsDrafted said draft later seen seen (Err found)
  failure_drafts (failure.Fault fault) is same = record { answers = ap counted is; change = same; unasked = refl }
  failure_drafts failure.NoMemory is same = record { answers = tt; change = same; unasked = refl }

module _ (close : Bool) (request : Request) (draft later : List Edit) (seen : List Entry) (steps before after : ℕ) (taken now : Option (List ℕ)) where
  -- what the message came to was told
  pub edit_told : (told : Result EditorAnswer EditorFault) (answer : Outcome) → IsDrafted (message request) draft later seen seen (taken_as told) → IsTold (told_text told close (shows_body request.method)) taken now answer
      → ServedEdited close request (preview_stand draft seen steps) (preview_stand later seen steps) before after taken now answer
  edit_told told answer drafts is =
      told_served (λ close old (e : Exchange) new. IsEdited e.request close old e.text e.broken new) (λ close old request text new. IsUntold request old text new)
      close request (preview_stand draft seen steps) (preview_stand later seen steps) (told_text told close (shows_body request.method)) before after taken now answer
      (record { told = told; drafts = drafts; read = refl; text_is = refl; broken_is = refl }) (record { result = taken_as told; drafts = drafts; read = refl; text_is = refl }) is

-- memory ran out for an editor's message
pub edit_starved : (close : Bool) (request : Request) (draft later : List Edit) (seen : List Entry) (steps faults : ℕ) (taken : Option (List ℕ)) → IsDrafted (message request) draft later seen seen (Err failure.NoMemory)
    → ServedEdited close request (preview_stand draft seen steps) (preview_stand later seen steps) faults faults taken taken NoMemory
edit_starved close request draft later seen steps faults taken drafts =
    starved_silently (λ close old (e : Exchange) new. IsEdited e.request close old e.text e.broken new) (λ close old request text new. IsUntold request old text new)
    close request (preview_stand draft seen steps) (preview_stand later seen steps) faults taken (record { result = Err failure.NoMemory; drafts = drafts; read = refl; text_is = refl })
