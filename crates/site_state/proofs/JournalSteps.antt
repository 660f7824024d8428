-- A Publish and a Snapshot, by what their parts did.
use Rattle.std.proofs.Common.{◌≡◌, ℕ, ◌+◌, ◌-◌, ◌^◌, ◌<◌, min, List, length, map, Option, Some, None, option_map, Result, Ok, Err, refl, sym, ap, subst, ◌∙◌}
use Rattle.pg_text.specs.declared.failure.Failure.{Failure}
use Rattle.pg_text.specs.declared.failure.Failure.TheVariants as failure
use Rattle.pg_text.specs.Failure.{Answers, AnswersAs}
use Rattle.source_tree.specs.declared.edit.Edit.{Edit}
use Rattle.source_tree.specs.declared.fault.TreeFault.{TreeFault}
use Rattle.source_tree.specs.declared.file.File.{File}
use Rattle.source_tree.specs.declared.need.Need.{Need}
use Rattle.source_tree.specs.Changed.{changed}
use Rattle.source_tree.specs.Edits.{after_edits}
use Rattle.source_tree.specs.Limits.{tree_fault, tree_of, unless}
use Rattle.program_store.specs.Store.{clean_in, dirty_in, kept_path}
use Rattle.site_words.specs.declared.words.Entry.{Entry}
use Rattle.site_words.specs.declared.words.KeptSession.{KeptSession}
use Rattle.site_words.specs.declared.words.Op.TheVariants as op
use Rattle.site_words.specs.declared.words.Opening.{Opening}
use Rattle.site_words.specs.declared.words.Refusal.{Refusal}
use Rattle.site_words.specs.declared.words.Reply.{Reply}
use Rattle.site_words.specs.declared.words.Reply.TheVariants as reply
use Rattle.site_words.specs.Ready.{dirty_of}
use Rattle.site_words.specs.Runs.{promised}
use Rattle.site_words.specs.Sessions.{attrs_of, holder, number_of}
use Rattle.site_words.specs.Step.{full_of, or_else, refusal_of, shown, snapped_session, stale, too_large}
use Rattle.site_words.specs.Trees.{Needs}
use Rattle.site_words.specs.Weights.{capped, op_weight, weight_held, weight_with}
use Rattle.site_state.specs.declared.gift.Done.{Done}
use Rattle.site_state.specs.declared.gift.Gift.{Gift}
use Rattle.site_state.specs.declared.gift.Gift.TheVariants.{Nothing, Start, Made, Id, Picture, Old}
use Rattle.site_state.specs.declared.session.Session.{Session}
use Rattle.site_state.specs.Conditions.{CanWork}
use Rattle.site_state.specs.Gifts.{IsPicture}
use Rattle.site_state.specs.Parts.{Parts, state_of}
use Rattle.site_state.specs.ReadDone.{IsPictureOf, IsPictured, attrs_in}
use Rattle.site_state.specs.ReadSessions.{found_at, held_by, number_in, shown_one}
use Rattle.site_state.specs.Sources.{session_of}
use Rattle.site_state.specs.Works.{AreKept, IsDone}
use Rattle.site_state.proofs.AttributeLemmas.{attrs_is, awake_is, found_is, holder_is, number_is, there_later}
use Rattle.site_state.proofs.Keeping.{Laws, clean_is, dirty_is, published_made}
use Rattle.site_state.proofs.Moving.{run_stays}
use Rattle.site_state.proofs.Steps.{done_by, sum_alone, sum_held}

-- a tree that edits make passes no limit
pub no_fault : (files : List File) (tree : List File) → tree_of files ≡ Ok tree → tree_fault files ≡ None
no_fault files tree is = go (tree_fault files) is
  where
    go : (f : Option TreeFault) → unless f files ≡ Ok tree → f ≡ None
    go None is = refl
    go (Some fault) is = absurd (cc)

-- and it is the one that they make
pub made_tree : (files : List File) (tree : List File) → tree_of files ≡ Ok tree → tree ≡ files
made_tree files tree is = go (tree_fault files) is
  where
    go : (f : Option TreeFault) → unless f files ≡ Ok tree → tree ≡ files
    go None is = cc
    go (Some fault) is = absurd (cc)

-- what was met with other words is met here too
failed_here : {A B E : Type 0} (view : A → B) (meant other : Result B E) (failed : Failure E) → Answers meant (Err failed) → meant ≡ other → AnswersAs view other (Err failed)
failed_here view meant other (failure.Fault fault) is same = sym same ∙ is
failed_here view meant other failure.NoMemory is same = tt

pub failed_too : {A B E : Type 0} (view : A → B) (meant other : Result B E) (result : Result A (Failure E)) (failed passed : Failure E) → result ≡ Err passed → passed ≡ failed → Answers meant (Err failed) → meant ≡ other → AnswersAs view other result
failed_too view meant other result failed passed is same answer meant_is =
    subst (λ r. AnswersAs view other r) (sym is) (subst (λ e. AnswersAs view other (Err e)) (sym same) (failed_here view meant other failed answer meant_is))

pub is_fault : (files : List File) (fault : TreeFault) → tree_of files ≡ Err fault → tree_fault files ≡ Some fault
is_fault files fault is = go (tree_fault files) is
  where
    go : (f : Option TreeFault) → unless f files ≡ Err fault → f ≡ Some fault
    go None is = absurd (cc)
    go (Some other) is = ap (λ f. Some f) (cc)

module _ {P : Type 0} (needs : Needs) (made : P → List File → List ℕ → Type 0) where
  -- the session of a picture
  shown_is : (x : Opening) (history : List Entry) (old : Parts P) (cookie : List ℕ)
      → snapped_session x (state_of x history old) cookie ≡ option_map (session_of x.sessions history) (shown_one (held_by (found_at x.seed cookie old.sessions) old.runs) x.idle old.moment (found_at x.seed cookie old.sessions))
  shown_is x history old cookie =
      ap (λ k. shown (holder k old.runs) x.idle old.moment k) (found_is x.sessions history x.seed cookie old.sessions)
      ∙ (ap (λ h. shown h x.idle old.moment (option_map (session_of x.sessions history) (found_at x.seed cookie old.sessions))) (holder_is x.sessions history (found_at x.seed cookie old.sessions) old.runs)
      ∙ go (held_by (found_at x.seed cookie old.sessions) old.runs))
    where
      go : (held : Option ℕ) → shown held x.idle old.moment (option_map (session_of x.sessions history) (found_at x.seed cookie old.sessions))
          ≡ option_map (session_of x.sessions history) (shown_one held x.idle old.moment (found_at x.seed cookie old.sessions))
      go (Some request) = refl
      go None = awake_is x.sessions history x.idle old.moment (found_at x.seed cookie old.sessions)

  picture_gift : (g : Gift P) (x : Opening) (history : List Entry) (old : Parts P) (cookie : List ℕ) (session : Option Session) → session ≡ shown_one (held_by (found_at x.seed cookie old.sessions) old.runs) x.idle old.moment (found_at x.seed cookie old.sessions)
      → IsPictureOf old.tree old.app (attrs_in x.sessions history session) g → IsPicture x (state_of x history old) cookie g
  picture_gift (Picture tree app attrs) x history old cookie session is gift =
      (gift.0, gift.1, gift.2 ∙ sym (ap (λ (k : Option KeptSession). attrs_of k) (shown_is x history old cookie ∙ ap (λ s. option_map (session_of x.sessions history) s) (sym is)) ∙ attrs_is x.sessions history session))
  picture_gift Nothing x history old cookie session is gift = absurd gift
  picture_gift (Made v) x history old cookie session is gift = absurd gift
  picture_gift (Id i) x history old cookie session is gift = absurd gift
  picture_gift (Start t a) x history old cookie session is gift = absurd gift
  picture_gift (Old t values) x history old cookie session is gift = absurd gift

  pub snapshot_done : (x : Opening) (history : List Entry) (old new : Parts P) (pass w sum : ℕ) (cookie : List ℕ) (session : Option Session) (done : Done P)
      → CanWork needs made x history old pass (op.Snapshot cookie) None → refusal_of needs x (state_of x history old) pass (op.Snapshot cookie) ≡ None
      → new ≡ record old { weight = sum }
      → session ≡ shown_one (held_by (found_at x.seed cookie old.sessions) old.runs) x.idle old.moment (found_at x.seed cookie old.sessions)
      → sum ≡ min (old.weight + w) (2 ^ 64 - 1) → w ≡ capped (op_weight (op.Snapshot cookie)) → IsPictured x.sessions history old session done
      → IsDone needs made x history old new pass (op.Snapshot cookie) done
  snapshot_done x history old new pass w sum cookie session done can none is session_is added claim pictured =
      let number : number_in session ≡ number_of (snapped_session x (state_of x history old) cookie) =
      sym (ap (λ (k : Option KeptSession). number_of k) (shown_is x history old cookie ∙ ap (λ s. option_map (session_of x.sessions history) s) (sym session_is)) ∙ number_is x.sessions history session) in
      subst (λ (n : Parts P). IsDone needs made x history old n pass (op.Snapshot cookie) done) (sym is)
      (done_by needs made x history old (record old { weight = sum }) pass (op.Snapshot cookie) (reply.Snapped old.version (number_in session)) done none
      (ap (λ n. reply.Snapped old.version n) number) pictured.0.0 pictured.0.1 (picture_gift done.given.gift x history old cookie session session_is pictured.1)
      (record {
        tree = refl;
        version = refl;
        app = refl;
        sessions = λ h at. refl;
        runs = run_stays old.runs pass;
        begins = refl;
        freshes = refl;
        moment = refl;
        ready = refl;
        weight = sum_alone old.weight sum w (op_weight (op.Snapshot cookie)) added claim (can.room none);
      })
      (there_later (length history) old.sessions) (λ all. all))

module _ {P : Type 0} (needs : Needs) (made : P → List File → List ℕ → Type 0) (needed : P → List Need) (laws : Laws needs made needed) where
  -- the reply of a publishing
  pub reply_here : (old : Parts P) (edits : List Edit) → AreKept made old.tree old.kept
      → reply.Published (old.version + 1) (dirty_in needed (changed edits old.tree) old.kept) ≡ reply.Published (old.version + 1) (dirty_of needs old.tree (changed edits old.tree) (map kept_path old.kept))
  reply_here old edits kept = ap (λ l. reply.Published (old.version + 1) l) (dirty_is needs made needed laws old.tree (changed edits old.tree) old.kept kept)

  -- why a publishing is refused
  publish_refusal : (x : Opening) (history : List Entry) (old : Parts P) (pass : ℕ) (base : Option ℕ) (edits : List Edit) (b f g : Option Refusal) → AreKept made old.tree old.kept → b ≡ stale base old.version
      → f ≡ too_large (tree_fault (after_edits edits (old.version + 1) old.tree))
      → g ≡ full_of x.limit old.weight (promised old.runs) (weight_with (op.Publish base edits) (reply.Published (old.version + 1) (dirty_in needed (changed edits old.tree) old.kept)))
      → refusal_of needs x (state_of x history old) pass (op.Publish base edits) ≡ or_else b (or_else f g)
  publish_refusal x history old pass base edits b f g kept b_is f_is g_is =
      ap (λ (r : Reply). or_else (stale base old.version) (or_else (too_large (tree_fault (after_edits edits (old.version + 1) old.tree))) (full_of x.limit old.weight (promised old.runs) (weight_with (op.Publish base edits) r))))
      (sym (reply_here old edits kept))
      ∙ (ap (λ g. or_else (stale base old.version) (or_else (too_large (tree_fault (after_edits edits (old.version + 1) old.tree))) g)) (sym g_is)
      ∙ (ap (λ f. or_else (stale base old.version) (or_else f g)) (sym f_is) ∙ ap (λ b. or_else b (or_else f g)) (sym b_is)))

  -- whether the journal has room for a publishing that nothing else refuses
  pub publish_room : (x : Opening) (history : List Entry) (old : Parts P) (pass : ℕ) (base : Option ℕ) (edits : List Edit) (dirty : List (List ℕ)) (tree : List File) (claim : Option ℕ) (full : Option Refusal)
      → AreKept made old.tree old.kept → None ≡ stale base old.version → dirty ≡ dirty_in needed (changed edits old.tree) old.kept → tree_of (after_edits edits (old.version + 1) old.tree) ≡ Ok tree
      → claim ≡ weight_held (weight_with (op.Publish base edits) (reply.Published (old.version + 1) dirty)) → ((n : ℕ) → claim ≡ weight_held n → full ≡ full_of x.limit old.weight (promised old.runs) n)
      → refusal_of needs x (state_of x history old) pass (op.Publish base edits) ≡ full
  publish_room x history old pass base edits dirty tree claim full kept latest dirty_here edited claimed room =
      publish_refusal x history old pass base edits None None full kept latest
      (sym (ap (λ f. too_large f) (no_fault (after_edits edits (old.version + 1) old.tree) tree edited)))
      (room (weight_with (op.Publish base edits) (reply.Published (old.version + 1) (dirty_in needed (changed edits old.tree) old.kept)))
      (claimed ∙ ap (λ (d : List (List ℕ)). weight_held (weight_with (op.Publish base edits) (reply.Published (old.version + 1) d))) dirty_here))

  pub publish_done : (x : Opening) (history : List Entry) (old new : Parts P) (pass w sum version : ℕ) (base : Option ℕ) (edits : List Edit) (dirty : List (List ℕ)) (tree : List File) (kept : List (List ℕ × P)) (done : Done P)
      → CanWork needs made x history old pass (op.Publish base edits) None → refusal_of needs x (state_of x history old) pass (op.Publish base edits) ≡ None
      → new ≡ record old { tree = tree; version = version; kept = kept; weight = sum }
      → version ≡ old.version + 1 → tree ≡ after_edits edits (old.version + 1) old.tree → kept ≡ clean_in needed (changed edits old.tree) old.kept → dirty ≡ dirty_in needed (changed edits old.tree) old.kept
      → sum ≡ min (old.weight + w) (2 ^ 64 - 1) → w ≡ weight_with (op.Publish base edits) (reply.Published (old.version + 1) dirty)
      → done.reply ≡ reply.Published (old.version + 1) dirty → done.given.reply ≡ reply.Published (old.version + 1) dirty
      → IsDone needs made x history old new pass (op.Publish base edits) done
  publish_done x history old new pass w sum version base edits dirty tree kept done can none is version_is tree_is kept_is dirty_here added claim told given =
      let r : Reply = reply.Published (old.version + 1) dirty in
      let here = ap (λ (d : List (List ℕ)). reply.Published (old.version + 1) d) dirty_here ∙ reply_here old edits can.kept in
      let room = subst (λ (r : Reply). old.weight + weight_with (op.Publish base edits) r < 2 ^ 64) (sym here) (can.room none) in
      subst (λ (n : Parts P). IsDone needs made x history old n pass (op.Publish base edits) done) (sym is)
      (done_by needs made x history old (record old { tree = tree; version = version; kept = kept; weight = sum }) pass (op.Publish base edits) r done none here told given tt
      (record {
        tree = tree_is;
        version = version_is;
        app = refl;
        sessions = λ h at. refl;
        runs = run_stays old.runs pass;
        begins = refl;
        freshes = refl;
        moment = refl;
        ready = ap (λ (l : List (List ℕ × P)). map kept_path l) kept_is ∙ clean_is needs made needed laws old.tree (changed edits old.tree) old.kept can.kept;
        weight = sum_held old.weight sum w (weight_with (op.Publish base edits) r) added claim room;
      })
      (there_later (length history) old.sessions)
      (λ all. subst (λ t. AreKept made t kept) (sym tree_is) (subst (λ l. AreKept made (after_edits edits (old.version + 1) old.tree) l) (sym kept_is) (published_made needs made needed laws old.tree (old.version + 1) edits old.kept (can.next edits) all))))
