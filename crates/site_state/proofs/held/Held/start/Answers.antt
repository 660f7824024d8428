use Rattle.std.proofs.Common.{◌≡◌, ℕ, zero, suc, List, Option, [], ◌∷◌, None, map, replicate, refl, ap, subst, ◌∙◌}
use Rattle.program_store.specs.Store.{kept_path}
use Rattle.site_words.specs.Runs.{UnderWay}
use Rattle.site_state.specs.Parts.{under_in}
use Rattle.site_state.specs.Sources.{sessions_of}
use Rattle.site_state.proofs.held.Held.start.Goals as goal

none_under : (n : ℕ) → map under_in (replicate n None) ≡ replicate n None
none_under zero = refl
none_under (suc n) = ap (λ (l : List (Option UnderWay)). None ∷ l) (none_under n)

pub returns-clause-state : goal.returns-clause-state
returns-clause-state g c =
    let app = c.in_ok-app.ensures ∙ c.in_ok-copy.ensures in
    let tree = c.in_ok-tree.ensures.ok ∙ c.in_ok-copy-2.ensures in
    let sessions = subst (λ o. sessions_of o [] c.in_ok-sessions.sessions ≡ o) c.as_slice.ensures c.in_ok-sessions.ensures.sessions in
    let runs = ap (λ l. map under_in l) c.in_ok-runs.ensures ∙ none_under c.args.opening.now.passes in
    let ready = ap (λ l. map kept_path l) c.new-3.ensures in
    λ i. record {
      tree = tree i;
      version = c.args.opening.now.version;
      app = app i;
      sessions = sessions i;
      runs = runs i;
      begins = c.args.opening.now.begins;
      freshes = c.args.opening.now.freshes;
      moment = c.args.opening.now.moment;
      ready = ready i;
      weight = 0;
    }
