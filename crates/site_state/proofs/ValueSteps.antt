-- A Fetch and an Offer, by what their parts did.
use Rattle.std.proofs.Common.{◌≡◌, ℕ, ◌+◌, ◌-◌, ◌^◌, min, Bool, true, false, List, length, map, set, Option, Some, None, refl, sym, ap, subst, ◌∙◌, if◌then◌else◌}
use Rattle.std.specs.Prelude.{◌&&◌}
use Rattle.pg_text.specs.Names.{has_name}
use Rattle.source_tree.specs.declared.file.File.{File}
use Rattle.source_tree.specs.declared.need.Need.{Need}
use Rattle.program_store.specs.Store.{hit_of, kept_path, with_value}
use Rattle.site_words.specs.declared.words.Entry.{Entry}
use Rattle.site_words.specs.declared.words.Op.TheVariants as op
use Rattle.site_words.specs.declared.words.Opening.{Opening}
use Rattle.site_words.specs.declared.words.Reply.TheVariants as reply
use Rattle.site_words.specs.Ready.{offered}
use Rattle.site_words.specs.Runs.{UnderWay, run_at, seated, spent, tree_in, under_at}
use Rattle.site_words.specs.Trees.{Needs, agrees}
use Rattle.site_words.specs.Weights.{capped, op_weight}
use Rattle.site_state.specs.declared.gift.Done.{Done}
use Rattle.site_state.specs.Conditions.{CanWork}
use Rattle.site_state.specs.Gifts.{FitsFetch, IsMadeHere}
use Rattle.site_state.specs.Parts.{Parts}
use Rattle.site_state.specs.ReadDone.{IsFound}
use Rattle.site_state.specs.Works.{AreKept, IsDone}
use Rattle.site_state.proofs.AttributeLemmas.{there_later}
use Rattle.site_state.proofs.Keeping.{Laws, hit_is, with_is, with_made}
use Rattle.site_state.proofs.Steps.{claim_alone, done_by, sum_alone}

module _ {P : Type 0} (needs : Needs) (made : P → List File → List ℕ → Type 0) (needed : P → List Need) (laws : Laws needs made needed) where
  pub fetch_done : (x : Opening) (history : List Entry) (old new : Parts P) (pass request w sum : ℕ) (path : List ℕ) (done : Done P) (runs : List (Option UnderWay)) → CanWork needs made x history old pass (op.Fetch request path) None
      → new ≡ record old { runs = runs; weight = sum }
      → runs ≡ set old.runs pass (seated (spent w (run_at old.runs pass)) (tree_in (under_at old.runs pass))) → sum ≡ min (old.weight + w) (2 ^ 64 - 1) → w ≡ capped (op_weight (op.Fetch request path))
      → IsFound (hit_of needed path (tree_in (under_at old.runs pass)) old.kept) done → IsDone needs made x history old new pass (op.Fetch request path) done
  fetch_done x history old new pass request w sum path done runs can is runs_are added claim found =
      let hit : Bool = has_name path (map kept_path old.kept) && agrees (needs old.tree path) (tree_in (under_at old.runs pass)) in
      let h = hit_is needs made needed laws path (tree_in (under_at old.runs pass)) old.tree old.kept can.kept can.older done found in
      subst (λ (n : Parts P). IsDone needs made x history old n pass (op.Fetch request path) done) (sym is)
      (done_by needs made x history old (record old { runs = runs; weight = sum }) pass (op.Fetch request path) (reply.Fetched hit) done refl refl h.0 (h.1 ∙ h.0)
      (subst (λ r. FitsFetch made (tree_in (under_at old.runs pass)) path r done.given.gift) (h.1 ∙ h.0) h.2)
      (record {
        tree = refl;
        version = refl;
        app = refl;
        sessions = λ h at. refl;
        runs = runs_are ∙ ap (λ n. set old.runs pass (seated (spent n (run_at old.runs pass)) (tree_in (under_at old.runs pass)))) (claim_alone old.weight w (op_weight (op.Fetch request path)) claim (can.room refl));
        begins = refl;
        freshes = refl;
        moment = refl;
        ready = refl;
        weight = sum_alone old.weight sum w (op_weight (op.Fetch request path)) added claim (can.room refl);
      })
      (there_later (length history) old.sessions) (λ all. all))

  -- an offer is kept where it is made from the latest tree too
  offer_is : (under : Option UnderWay) (request : ℕ) (path : List ℕ) (v : P) (latest : List File) → IsMadeHere made under (op.Offer request path) (Some v) → agrees (needed v) latest ≡ agrees (needs (tree_in under) path) latest
  offer_is under request path v latest is = ap (λ (n : List Need). agrees n latest) (laws.keeps v (tree_in under) path is)

  pub offer_done : (x : Opening) (history : List Entry) (old new : Parts P) (pass request w sum : ℕ) (path : List ℕ) (v : P) (kept_it : Bool) (kept : List (List ℕ × P)) (done : Done P) (runs : List (Option UnderWay))
      → CanWork needs made x history old pass (op.Offer request path) (Some v)
      → new ≡ record old { runs = runs; weight = sum; kept = kept }
      → runs ≡ set old.runs pass (seated (spent w (run_at old.runs pass)) (tree_in (under_at old.runs pass))) → sum ≡ min (old.weight + w) (2 ^ 64 - 1) → w ≡ capped (op_weight (op.Offer request path))
      → (kept_it ≡ agrees (needed v) old.tree) × (kept ≡ (if kept_it then with_value path v old.kept else old.kept))
      → done.reply ≡ reply.Offered kept_it → done.given.reply ≡ reply.Offered kept_it → IsDone needs made x history old new pass (op.Offer request path) done
  offer_done x history old new pass request w sum path v kept_it kept done runs can is runs_are added claim did told given =
      let agreed : kept_it ≡ agrees (needs (tree_in (under_at old.runs pass)) path) old.tree = did.0 ∙ offer_is (under_at old.runs pass) request path v old.tree can.value in
      subst (λ (n : Parts P). IsDone needs made x history old n pass (op.Offer request path) done) (sym is)
      (done_by needs made x history old (record old { runs = runs; weight = sum; kept = kept }) pass (op.Offer request path) (reply.Offered kept_it) done refl (ap (λ b. reply.Offered b) agreed) told given tt
      (record {
        tree = refl;
        version = refl;
        app = refl;
        sessions = λ h at. refl;
        runs = runs_are ∙ ap (λ n. set old.runs pass (seated (spent n (run_at old.runs pass)) (tree_in (under_at old.runs pass)))) (claim_alone old.weight w (op_weight (op.Offer request path)) claim (can.room refl));
        begins = refl;
        freshes = refl;
        moment = refl;
        ready = ap (λ (l : List (List ℕ × P)). map kept_path l) did.1 ∙ ready kept_it;
        weight = sum_alone old.weight sum w (op_weight (op.Offer request path)) added claim (can.room refl);
      })
      (there_later (length history) old.sessions)
      (λ all. subst (λ l. AreKept made old.tree l) (sym did.1) (all_made kept_it agreed all)))
    where
      ready : (b : Bool) → map kept_path (if b then with_value path v old.kept else old.kept) ≡ offered path (map kept_path old.kept) (reply.Offered b)
      ready true = with_is path v old.kept can.order
      ready false = refl

      all_made : (b : Bool) → b ≡ agrees (needs (tree_in (under_at old.runs pass)) path) old.tree → AreKept made old.tree old.kept → AreKept made old.tree (if b then with_value path v old.kept else old.kept)
      all_made true agreed all = with_made made old.tree path v old.kept (laws.agreeing v (tree_in (under_at old.runs pass)) old.tree path can.later (sym agreed) can.value) all
      all_made false agreed all = all
