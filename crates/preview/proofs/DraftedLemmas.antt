-- The tree that a draft makes, applied under any stamp.
use Rattle.std.proofs.Common.{◌≡◌, ◌<◌, ℕ, ◌+◌, ◌^◌, List, Option, Some, None, sym, ap, subst, ◌∙◌}
use Rattle.std.specs.Prelude.{IfOk, Result, Ok, Err}
use Rattle.pg_text.specs.Failure.{Answers}
use Rattle.pg_text.specs.declared.failure.Failure.{Failure}
use Rattle.pg_text.specs.declared.failure.Failure.TheVariants.{Fault}
use Rattle.preview_words.proofs.StampLemmas.{same_fault}
use Rattle.preview_words.specs.Own.{Picture, drafted_tree}
use Rattle.source_tree.specs.Edits.{after_edits}
use Rattle.source_tree.specs.Limits.{IsWithinLimits, tree_fault, tree_of, unless}
use Rattle.source_tree.specs.declared.edit.Edit.{Edit}
use Rattle.source_tree.specs.declared.fault.TreeFault.{TreeFault}
use Rattle.source_tree.specs.declared.file.File.{File}

unless_fault : (o : Option TreeFault) (files : List File) (reason : TreeFault) → unless o files ≡ Err reason → o ≡ Some reason
unless_fault None files reason is = absurd (cc)
unless_fault (Some fault) files reason is = let same : fault ≡ reason = cc in ap Some same

module _ (edits : List Edit) (stamp : ℕ) (picture : Picture) where
  -- the limit that the tree passes is the one that is told
  pub fault_drafted : (result : Result (List File) (Failure TreeFault)) (reason : TreeFault) → Answers (tree_of (after_edits edits stamp picture.tree)) result → result ≡ Err (Fault reason) → tree_fault (drafted_tree edits picture) ≡ Some reason
  fault_drafted result reason answers is =
      let told : tree_of (after_edits edits stamp picture.tree) ≡ Err reason = subst (Answers (tree_of (after_edits edits stamp picture.tree))) is answers in
      same_fault edits (picture.version + 1) stamp picture.tree ∙ unless_fault (tree_fault (after_edits edits stamp picture.tree)) (after_edits edits stamp picture.tree) reason told

  -- it keeps its limits where the tree that was made does
  pub limits_drafted : (tree : List File) → tree ≡ after_edits edits stamp picture.tree → tree_fault tree ≡ None → tree_fault (drafted_tree edits picture) ≡ None
  limits_drafted tree is none = same_fault edits (picture.version + 1) stamp picture.tree ∙ (ap tree_fault (sym is) ∙ none)

  -- the tree that was made is that of the draft, where a version comes behind
  pub files_in : (result : Result (List File) (Failure TreeFault)) → (picture.version + 1 < 2 ^ 63 → stamp ≡ picture.version + 1) → IfOk result (λ tree. tree ≡ after_edits edits stamp picture.tree)
      → IfOk result (λ tree. picture.version + 1 < 2 ^ 63 → tree ≡ drafted_tree edits picture)
  files_in (Ok tree) same is = λ behind. is ∙ ap (λ n. after_edits edits n picture.tree) (same behind)
  files_in (Err failure) same is = tt

  pub limits_in : (result : Result (List File) (Failure TreeFault)) → IfOk result (λ tree. tree ≡ after_edits edits stamp picture.tree) → IfOk result IsWithinLimits → IfOk result (λ tree. tree_fault (drafted_tree edits picture) ≡ None)
  limits_in (Ok tree) is none = limits_drafted tree is none
  limits_in (Err failure) is none = tt
