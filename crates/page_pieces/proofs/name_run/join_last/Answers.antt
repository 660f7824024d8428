use Rattle.std.proofs.Common.{◌∙◌, ℕ, List, [], ◌∷◌, ◌++◌, take, drop, length-drop, ap, arith}
use Rattle.std.proofs.lemmas.List.{take_all}
use Rattle.page_pieces.specs.ReadNames.{names_in}
use Rattle.page_pieces.proofs.NameListLemmas.{joined_last}
use Rattle.page_pieces.proofs.name_run.join_last.Goals as goal

pub returns : goal.returns
returns c =
    let kept = c.kept_runs-kept.result in
    let runs = c.args.runs.now.items in
    let names = c.in_ok-run.ensures ∙ c.in_ok-names.ensures ∙ ap names_in (take_all _ (drop kept c.deref-2.result.now) (omega (arith, length-drop {A = List (List ℕ)})))
    ∙ ap (λ rs. names_in (drop kept rs)) c.deref-2.ensures.value in
    ap names_in c.in_ok-push.ensures.items
    ∙ ap (λ rs. names_in (rs ++ c.in_ok-run.run' ∷ [])) c.truncate.ensures.items
    ∙ ap (λ r. names_in (take kept runs ++ r ∷ [])) names
    ∙ joined_last runs kept
