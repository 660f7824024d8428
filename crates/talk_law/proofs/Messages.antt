-- Where one pass alone acts, from one state an editor's message is taken in one way.
use Rattle.std.proofs.Common.{◌≡◌, ℕ, ◌+◌, List, [], ◌∷◌, ◌++◌, sym, ap, subst, ◌∙◌, Option, Some}
use Rattle.std.specs.Prelude.{Result, Ok, Err}
use Rattle.edges.specs.declared.acted.Acted.TheVariants.{Refused}
use Rattle.editor.specs.Taking.{IsChanged, IsDrafted, Takes, changed, counted, fault_of}
use Rattle.editor.specs.declared.answer.EditorAnswer.{EditorAnswer}
use Rattle.editor.specs.declared.answer.EditorAnswer.TheVariants as answer
use Rattle.editor.specs.declared.fault.EditorFault.{EditorFault}
use Rattle.editor.specs.declared.message.Message.{Message}
use Rattle.editor.specs.declared.message.Message.TheVariants.{Change, Publish}
use Rattle.talk_law.proofs.Alone.{acts_did, acts_is, entry_by, stays_is}
use Rattle.talk_law.proofs.Turns.{one_reply}
use Rattle.pg_text.specs.Failure.{Answers as AnswersTo}
use Rattle.site_words.specs.Law.{Legal}
use Rattle.site_words.specs.State.{after}
use Rattle.site_words.specs.Step.{step}
use Rattle.site_words.specs.Trees.{Needs}
use Rattle.site_words.specs.declared.port.Published.{Published}
use Rattle.site_words.specs.declared.words.Entry.{Entry}
use Rattle.site_words.specs.declared.words.Op.{Op}
use Rattle.site_words.specs.declared.words.Op.TheVariants as op
use Rattle.site_words.specs.declared.words.Opening.{Opening}
use Rattle.site_words.specs.declared.words.Reply.{Reply}
use Rattle.site_words.specs.declared.words.Reply.TheVariants as reply
use Rattle.source_tree.specs.declared.edit.Edit.{Edit}
use Rattle.talk_words.specs.Said.{taken_as}
use Rattle.talk_law.proofs.Requests.{both_ways, one_refusal}

module _ (needs : Needs) (x : Opening) (pass : ℕ) (one : x.passes ≡ 1) (first : pass ≡ 0) where
  told_is : (expected told : Result EditorAnswer EditorFault) → AnswersTo expected (taken_as told) → expected ≡ told
  told_is expected (Ok a) is = is
  told_is expected (Err f) is = is

  abbrev TookOne : (told told' : Result EditorAnswer EditorFault) (later later' : List Edit) (now now' : List Entry) → Type 0
  TookOne told told' later later' now now' = (told ≡ told') × (later ≡ later') × (now ≡ now')

  -- a change of the draft
  drafted_one : (said : Result Message EditorFault) (draft later later' : List Edit) (seen now now' : List Entry) (told told' : Result EditorAnswer EditorFault)
      → ((t : Result EditorAnswer EditorFault) (l l' : List Edit) → IsChanged said draft l (taken_as t) → IsChanged said draft l' (taken_as t) → l ≡ l')
      → IsDrafted said draft later seen now (taken_as told) → IsDrafted said draft later' seen now' (taken_as told') → TookOne told told' later later' now now'
  drafted_one said draft later later' seen now now' told told' leaves a b =
      let same : told ≡ told' = sym (told_is (counted (changed said draft)) told a.answers) ∙ told_is (counted (changed said draft)) told' b.answers in
      (same, leaves told later later' a.change (subst (λ t. IsChanged said draft later' (taken_as t)) (sym same) b.change), a.unasked ∙ sym b.unasked)

  changes_one : (edit : Edit) (draft : List Edit) (t : Result EditorAnswer EditorFault) (l l' : List Edit) → IsChanged (let z : Result Message EditorFault = Ok (Change edit) in z) draft l (taken_as t) → IsChanged (let z : Result Message EditorFault = Ok (Change edit) in z) draft l' (taken_as t) → l ≡ l'
  changes_one edit draft (Ok a) l l' is also = is ∙ sym also
  changes_one edit draft (Err f) l l' is also = is ∙ sym also

  stays_one : (fault : EditorFault) (draft : List Edit) (t : Result EditorAnswer EditorFault) (l l' : List Edit) → IsChanged (let z : Result Message EditorFault = Err fault in z) draft l (taken_as t) → IsChanged (let z : Result Message EditorFault = Err fault in z) draft l' (taken_as t) → l ≡ l'
  stays_one fault draft (Ok a) l l' is also = absurd is
  stays_one fault draft (Err f) l l' is also = is ∙ sym also

  pub took_one : (said : Result Message EditorFault) (draft later later' : List Edit) (seen now now' : List Entry) (told told' : Result EditorAnswer EditorFault) → Legal needs x seen
      → Takes needs x pass said draft later seen now (taken_as told) → Takes needs x pass said draft later' seen now' (taken_as told') → TookOne told told' later later' now now'
  took_one (Ok (Publish base)) draft later later' seen now now' (Ok (answer.Published p)) (Ok (answer.Published q)) legal a b =
      let o : Op = op.Publish base draft in
      let r : Reply = reply.Published p.version p.dirty in
      let s : Reply = reply.Published q.version q.dirty in
      let replies = one_reply (step needs x (after needs x seen) pass o) r s (acts_did needs x pass one first seen now o r legal a.entry) (acts_did needs x pass one first seen now' o s legal b.entry) in
      let version : p.version ≡ q.version = cc in
      let dirty : p.dirty ≡ q.dirty = cc in
      let same : p ≡ q = ap (λ n. let z : Published = record { version = n; dirty = p.dirty } in z) version ∙ ap (λ ns. let z : Published = record { version = q.version; dirty = ns } in z) dirty in (
        ap (λ z. Ok (answer.Published z)) same,
        a.emptied ∙ sym b.emptied,
        acts_is needs x pass one first seen now o r legal a.entry ∙ ap (λ z. seen ++ entry_by pass (o, z) ∷ []) replies ∙ sym (acts_is needs x pass one first seen now' o s legal b.entry),
      )
  took_one (Ok (Publish base)) draft later later' seen now now' (Ok (answer.Published p)) (Err f) legal a b =
      let o : Op = op.Publish base draft in
      let r : Reply = reply.Published p.version p.dirty in
      let is = subst (λ h. step needs x (after needs x h) pass o ≡ Refused b.refusal) (stays_is needs x pass one first seen now' legal b.stays) b.step_is in
      absurd (both_ways (step needs x (after needs x seen) pass o) r b.refusal (acts_did needs x pass one first seen now o r legal a.entry) is)
  took_one (Ok (Publish base)) draft later later' seen now now' (Err f) (Ok (answer.Published p)) legal a b =
      let o : Op = op.Publish base draft in
      let r : Reply = reply.Published p.version p.dirty in
      let is = subst (λ h. step needs x (after needs x h) pass o ≡ Refused a.refusal) (stays_is needs x pass one first seen now legal a.stays) a.step_is in
      absurd (both_ways (step needs x (after needs x seen) pass o) r a.refusal (acts_did needs x pass one first seen now' o r legal b.entry) is)
  took_one (Ok (Publish base)) draft later later' seen now now' (Err f) (Err g) legal a b =
      let o : Op = op.Publish base draft in
      let here = stays_is needs x pass one first seen now legal a.stays in
      let there = stays_is needs x pass one first seen now' legal b.stays in
      let is = subst (λ h. step needs x (after needs x h) pass o ≡ Refused a.refusal) here a.step_is in
      let also = subst (λ h. step needs x (after needs x h) pass o ≡ Refused b.refusal) there b.step_is in
      let same = one_refusal (step needs x (after needs x seen) pass o) a.refusal b.refusal is also in
      let told : ◌≡◌ {A = Option EditorFault} (Some f) (Some g) = sym a.told_is ∙ ap fault_of same ∙ b.told_is in
      let fault : f ≡ g = cc in
      (ap (λ z. Err z) fault, a.kept ∙ sym b.kept, here ∙ sym there)
  took_one (Ok (Publish base)) draft later later' seen now now' (Ok (answer.Drafted n)) told' legal a b = absurd a
  took_one (Ok (Publish base)) draft later later' seen now now' told (Ok (answer.Drafted n)) legal a b = absurd b
  took_one (Ok (Change edit)) draft later later' seen now now' told told' legal a b = drafted_one (Ok (Change edit)) draft later later' seen now now' told told' (changes_one edit draft) a b
  took_one (Err fault) draft later later' seen now now' told told' legal a b = drafted_one (Err fault) draft later later' seen now now' told told' (stays_one fault draft) a b
