-- What a request for a page comes to by a picture of the site and a draft.
use Rattle.std.proofs.Common.{◌≡◌, ◌⊎◌, ◌≤◌, ◌<◌, ℕ, ◌+◌, ◌-◌, ◌^◌, Bool, true, false, List, [], Option, Some, None, codes, refl, sym, subst, inl, inr, arith}
use Rattle.std.specs.Bool.{MatchBool}
use Rattle.std.specs.Option.{MatchOption}
use Rattle.std.specs.Prelude.{nat_le}
use Rattle.std.proofs.lemmas.Bool.Decides.{nat_tests}
use Rattle.conversation.proofs.ServedLemmas.{served_map, told_served}
use Rattle.conversation.specs.Told.{IsTold}
use Rattle.conversation.specs.Exchange.{Exchange}
use Rattle.conversation.specs.Served.{Served}
use Rattle.conversation.specs.declared.desk.Outcome.{Outcome}
use Rattle.conversation.specs.declared.desk.Outcome.TheVariants.{NoMemory}
use Rattle.edges.proofs.ToldBytes.{appends_none}
use Rattle.editor.specs.Telling.{fault_text}
use Rattle.editor.specs.declared.fault.EditorFault.TheVariants as fault
use Rattle.http_in.specs.declared.request.Request.{Request}
use Rattle.http_out.specs.Response.{plain}
use Rattle.http_out.specs.declared.status.Status.TheVariants as status
use Rattle.http_out.specs.Methods.{shows_body}
use Rattle.preview_words.specs.Own.{Picture, drafted_tree, own_opening}
use Rattle.preview_words.specs.Shown.{Hides, HidesTree, IsPlain, IsRun, IsRunDropped, IsSilent, ServedRun, ServedShown, ServedTree, Shows, ShowsTree}
use Rattle.site_words.specs.Opening.{is_sound}
use Rattle.site_words.specs.Trees.{Needs}
use Rattle.source_tree.specs.Limits.{tree_fault}
use Rattle.source_tree.specs.declared.edit.Edit.{Edit}
use Rattle.source_tree.specs.declared.fault.TreeFault.{TreeFault}
use Rattle.source_tree.specs.declared.file.File.{File}

-- memory ran out, and nothing was written
pub starved_silently : {W : Type 0} (serves : Bool → W → Exchange → W → Type 0) (starves : Bool → W → Request → List ℕ → W → Type 0) (close : Bool) (request : Request) (a b : W) (faults : ℕ) (taken : Option (List ℕ))
    → starves close a request [] b → Served serves starves close request a b faults faults taken taken NoMemory
starved_silently serves starves close request a b faults taken left = record { text = []; left = left; failed = false; sent = appends_none taken; cause = λ is. absurd (cc) }

module _ (needs : Needs) (tree : List File) (picture : Picture) (close : Bool) (request : Request) (steps later before after : ℕ) (taken now : Option (List ℕ)) (answer : Outcome) where
  -- the request was run on a site of its own
  pub run_served : picture.version + 1 < 2 ^ 63 → ServedRun needs (own_opening tree picture) picture.session close request steps later before after taken now answer
      → ServedTree needs tree picture close request steps later before after taken now answer
  run_served behind served =
      let more : nat_le (2 ^ 63 - 1) picture.version ≡ false = grind (arith, nat_tests) in
      served_map (λ close steps (e : Exchange) later. IsRun needs (own_opening tree picture) picture.session e.request close steps e.text e.broken later)
      (λ close steps request text later. IsSilent steps text later ⊎ IsRunDropped needs (own_opening tree picture) picture.session request close steps text later)
      (λ close steps (e : Exchange) later. ShowsTree needs tree picture e.request close steps e.text e.broken later) (λ close steps request text later. HidesTree needs tree picture request close steps text later)
      close request request steps later steps later before after taken now answer
      (λ text broken is. subst (λ test. MatchBool test (IsPlain status.ContentTooLarge (codes "TreeTooLarge Version") request close steps text broken later) (IsRun needs (own_opening tree picture) picture.session request close steps text broken later)) (sym more) is)
      (λ text is. hides text is) served
    where
      hides : (text : List ℕ) → IsSilent steps text later ⊎ IsRunDropped needs (own_opening tree picture) picture.session request close steps text later → HidesTree needs tree picture request close steps text later
      hides text (inl is) = inl is
      hides text (inr is) = inr (behind, is)

  -- what is shown by a tree is shown by the draft that makes it
  pub tree_served : (edits : List Edit) → (picture.version + 1 < 2 ^ 63 → tree ≡ drafted_tree edits picture) → tree_fault (drafted_tree edits picture) ≡ None
      → ServedTree needs tree picture close request steps later before after taken now answer → ServedShown needs edits picture close request steps later before after taken now answer
  tree_served edits files none served =
      served_map (λ close steps (e : Exchange) later. ShowsTree needs tree picture e.request close steps e.text e.broken later) (λ close steps request text later. HidesTree needs tree picture request close steps text later)
      (λ close steps (e : Exchange) later. Shows needs edits picture e.request close steps e.text e.broken later) (λ close steps request text later. Hides needs edits picture request close steps text later)
      close request request steps later steps later before after taken now answer
      (λ text broken is. subst (λ o. MatchOption o (ShowsTree needs (drafted_tree edits picture) picture request close steps text broken later)
      (λ reason. IsPlain status.ContentTooLarge (fault_text (fault.TreeTooLarge reason)) request close steps text broken later)) (sym none) (shows text broken (nat_le (2 ^ 63 - 1) picture.version) refl is))
      (λ text is. hides text is) served
    where
      shows : (text : List ℕ) (broken test : Bool) → nat_le (2 ^ 63 - 1) picture.version ≡ test
          → MatchBool test (IsPlain status.ContentTooLarge (codes "TreeTooLarge Version") request close steps text broken later) (IsRun needs (own_opening tree picture) picture.session request close steps text broken later)
          → MatchBool test (IsPlain status.ContentTooLarge (codes "TreeTooLarge Version") request close steps text broken later) (IsRun needs (own_opening (drafted_tree edits picture) picture) picture.session request close steps text broken later)
      shows text broken true more is = is
      shows text broken false more is =
          let behind : picture.version + 1 < 2 ^ 63 = grind (arith, nat_tests) in
          subst (λ (files : List File). IsRun needs (own_opening files picture) picture.session request close steps text broken later) (files behind) is

      hides : (text : List ℕ) → HidesTree needs tree picture request close steps text later → Hides needs edits picture request close steps text later
      hides text (inl is) = inl is
      hides text (inr is) =
          inr (none, inr (is.0, subst (λ (files : List File). IsRunDropped needs (own_opening files picture) picture.session request close steps text later) (files is.0) is.1))

module _ (needs : Needs) (picture : Picture) (close : Bool) (request : Request) (steps before after : ℕ) (taken now : Option (List ℕ)) (answer : Outcome) where
  -- that no version is behind the picture's was told
  pub version_served : (tree : List File) → 2 ^ 63 - 1 ≤ picture.version → IsTold (plain status.ContentTooLarge close (codes "TreeTooLarge Version") (shows_body request.method)) taken now answer
      → ServedTree needs tree picture close request steps steps before after taken now answer
  version_served tree last told =
      let text : List ℕ = plain status.ContentTooLarge close (codes "TreeTooLarge Version") (shows_body request.method) in
      let more : nat_le (2 ^ 63 - 1) picture.version ≡ true = grind (arith, nat_tests) in
      told_served (λ close steps (e : Exchange) later. ShowsTree needs tree picture e.request close steps e.text e.broken later) (λ close steps request text later. HidesTree needs tree picture request close steps text later)
      close request steps steps text before after taken now answer
      (subst (λ test. MatchBool test (IsPlain status.ContentTooLarge (codes "TreeTooLarge Version") request close steps text false steps) (IsRun needs (own_opening tree picture) picture.session request close steps text false steps)) (sym more)
      (record { read = refl; text_is = refl; broken_is = refl }))
      (inl (refl, refl)) told

  -- the limit that the tree passes was told
  pub fault_served : (edits : List Edit) (reason : TreeFault) → tree_fault (drafted_tree edits picture) ≡ Some reason → IsTold (plain status.ContentTooLarge close (fault_text (fault.TreeTooLarge reason)) (shows_body request.method)) taken now answer
      → ServedShown needs edits picture close request steps steps before after taken now answer
  fault_served edits reason is told =
      let text : List ℕ = plain status.ContentTooLarge close (fault_text (fault.TreeTooLarge reason)) (shows_body request.method) in
      told_served (λ close steps (e : Exchange) later. Shows needs edits picture e.request close steps e.text e.broken later) (λ close steps request text later. Hides needs edits picture request close steps text later)
      close request steps steps text before after taken now answer
      (subst (λ o. MatchOption o (ShowsTree needs (drafted_tree edits picture) picture request close steps text false steps)
      (λ reason. IsPlain status.ContentTooLarge (fault_text (fault.TreeTooLarge reason)) request close steps text false steps)) (sym is)
      (record { read = refl; text_is = refl; broken_is = refl }))
      (inl (refl, refl)) told

-- where the tree is the one that the draft makes, a site may open with it
pub runnable_tree : (edits : List Edit) (picture : Picture) (tree : List File) → tree ≡ drafted_tree edits picture → is_sound (own_opening (drafted_tree edits picture) picture) ≡ true → is_sound (own_opening tree picture) ≡ true
runnable_tree edits picture tree is sound = subst (λ (files : List File). is_sound (own_opening files picture) ≡ true) (sym is) sound
