-- The laws of the world that a page run is lent.
use Rattle.std.specs.Prelude.{◌≡◌, ℕ, Bool, true, false, List, Option, Some, None, is_some, length, refl}
use Rattle.std.proofs.Common.{sym, ap, subst, inl, arith}
use Rattle.http_out.specs.declared.head.Head.{Head}
use Rattle.out_buffer.specs.Writer.{has_committed}
use Rattle.run_world.specs.Origin.{Origin}
use Rattle.run_stage.specs.Stage.{Reached, StoresSo}
use Rattle.run_stage.specs.Keeping.{fresh_claim, head_after}
use Rattle.run_world.specs.declared.program.Program.{Program}
use Rattle.run_stage.specs.declared.stage.Stage.{Stage}
use Rattle.page_meaning.specs.State.{State}
use Rattle.run_world.specs.Program.{Stored}
use Rattle.pg_text.specs.declared.place.PageFault.{PageFault}
use Rattle.site_words.specs.Running.{Asking}
use Rattle.source_tree.specs.declared.file.File.{File}

-- a head names no session more where none came to be
pub same_head : (id : Option (List ℕ)) (head : Head) (fresh : Bool) → head ≡ head_after head (is_some id) id fresh
same_head (Some id) head fresh = refl
same_head None head fresh = refl

-- nor is more taken of the promise
pub no_claim : (b : Bool) → fresh_claim b b ≡ 0
no_claim true = refl
no_claim false = refl

module _ {P K : Type 0} {taken : K → Option (List ℕ)} {faults : K → ℕ} {leads : P → P → Type 0} {asking : P → Asking} {tree : P → List File} where
  pub stage_stores_on : (made : Program → List File → List ℕ → Type 0) (faulty : PageFault → List File → List ℕ → Type 0) (first w : Stage P K) (origin : Origin) (s : State) (stored : (path : List ℕ) → Stored)
      → Reached taken faults leads asking tree first origin w s → StoresSo made faulty (tree first.port.now) stored → StoresSo made faulty (tree w.port.now) stored
  stage_stores_on made faulty first w origin s stored r h = subst (λ t. StoresSo made faulty t stored) (sym r.tree) h

  pub stage_again : ((port : P) → leads port port) → (first w : Stage P K) (origin : Origin) (s : State) → Reached taken faults leads asking tree first origin w s → Reached taken faults leads asking tree w origin w s
  stage_again leads_here first w origin s r = record {
    same = record { scopes = refl; writer = refl; sink = refl; around = refl; port = refl };
    leads = leads_here w.port.now;
    tree = refl;
    writer = r.writer;
    scopes = r.scopes;
    asked = r.asked;
    ordered = r.ordered;
    depth = refl;
    visits = r.visits;
    charge = r.charge;
    id = r.id;
    fresh = r.fresh;
    session = record { stays = λ there. (refl, refl) };
    response = record { head = same_head w.around.now.id w.writer.now.head w.around.now.fresh; shown = refl };
    charged = record { charge = inl refl; promise = omega (arith, no_claim (is_some w.around.now.id)) };
  }

  pub stage_tells : (first w : Stage P K) (origin : Origin) (s : State) → Reached taken faults leads asking tree first origin w s
      → (w.scopes.now ≡ s.scopes) × (length w.writer.now.kept ≡ length s.writer.kept) × (w.around.now.visits ≡ s.visits) × (w.writer.now.committed ≡ has_committed s.writer)
  stage_tells first w origin s r = (sym r.scopes, sym (ap (λ x. length x.kept) r.writer.holds), sym r.visits, r.writer.committed)
