-- What an act comes to, as a call of a port.
use Rattle.std.proofs.Common.{◌≡◌, ◌≢◌, ℕ, zero, suc, ◌-◌, ◌<◌, Bool, true, false, List, [], ◌∷◌, ◌++◌, max, Option, Some, None, refl, sym, ap, subst, ◌∙◌, append-nil}
use Rattle.std.specs.Prelude.{IfSome, slice_get, slice_index_or}
use Rattle.std.specs.Arc.{arc_value}
use Rattle.std.specs.declared.sync.Arc.{Arc}
use Rattle.edges.specs.declared.acted.Acted.{Acted}
use Rattle.edges.specs.declared.acted.Acted.TheVariants.{Did, Refused, NoMemory}
use Rattle.edges.proofs.Own.{acts}
use Rattle.source_tree.specs.declared.file.File.{File}
use Rattle.site_words.specs.declared.port.Begun.{Begun}
use Rattle.site_words.specs.declared.port.Fresh.{Fresh}
use Rattle.site_words.specs.declared.words.Entry.{Entry}
use Rattle.site_words.specs.declared.words.Op.{Op}
use Rattle.site_words.specs.declared.words.Op.TheVariants as op
use Rattle.site_words.specs.declared.words.Opening.{Opening}
use Rattle.site_words.specs.declared.words.Refusal.{Refusal}
use Rattle.site_words.specs.declared.words.Reply.{Reply}
use Rattle.site_words.specs.declared.words.Run.{Run}
use Rattle.site_words.specs.declared.words.Reply.TheVariants as reply
use Rattle.site_words.specs.Answers.{ForRun, StartsWith}
use Rattle.site_words.specs.Calls.{Calls}
use Rattle.site_words.specs.Fits.{has_run}
use Rattle.site_words.specs.Ids.{id_of}
use Rattle.site_words.specs.Invariants.{HasTree}
use Rattle.site_words.specs.Law.{Legal, own, pass_of, run_of, trees_of}
use Rattle.site_words.specs.Runs.{UnderWay, run_in, tree_in, under_at}
use Rattle.site_words.specs.Sessions.{number_of}
use Rattle.site_words.specs.State.{State, after, moved, start_of}
use Rattle.site_words.specs.Step.{begun_session, step}
use Rattle.site_words.specs.Trees.{Needs}
use Rattle.site_words.proofs.Gifts.{begun_gift}
use Rattle.site_words.proofs.Items.{each_at, get_left}
use Rattle.site_words.proofs.Lasting.{run_is_own, trees_grow}
use Rattle.site_words.proofs.Legal.{after_push, legal_front}
use Rattle.site_words.proofs.RunTree.{to_run_tree}
use Rattle.site_words.proofs.Trees.{trees_are}
use Rattle.site_state.specs.declared.gift.Gift.{Gift}
use Rattle.site_state.specs.declared.gift.Gift.TheVariants.{Nothing, Start, Made, Id, Picture, Old}
use Rattle.site_state.specs.declared.gift.Given.{Given}
use Rattle.site_state.specs.Gifts.{FitsFetch, FitsHit, IsId, IsStart}
use Rattle.site_core.specs.Answered.{Answered, IsGiven, reply_in}
use Rattle.site_core.specs.Applies.{Applies}
use Rattle.site_core.specs.Lived.{Lived}
use Rattle.site_core.specs.ReadGiven.{CanBegin, CanFind, CanName, IsBegunBy, IsFoundBy, IsFreshBy, IsHitBy}

module _ {P : Type 0} (needs : Needs) (made : P → List File → List ℕ → Type 0) where
  -- an act is a call
  pub calls_of : (x : Opening) (pass : ℕ) (old new : List Entry) (o : Op) (a : Acted (Given P) Refusal) → Answered needs made x pass old new o a → Calls needs x pass old new o (reply_in a)
  calls_of x pass old new o (Did given) answered = record {
    front = answered.front;
    entry = answered.entry;
    stays = answered.stays;
    by_pass = answered.by_pass;
    said = answered.said.0;
    seen = answered.seen;
    grown = answered.grown;
    is_legal = answered.is_legal;
  }
  calls_of x pass old new o (Refused refusal) answered = answered
  calls_of x pass old new o NoMemory answered = answered

  -- an operation on a site alone is an act
  pub acts_alone : (old new : Lived) (pass : ℕ) (o : Op) (a : Acted (Given P) Refusal) → Applies needs made old new pass o a → Legal needs old.opening old.history → Legal needs new.opening new.history
      → Answered needs made old.opening pass old.history new.history o a
  acts_alone old new pass o (Did given) applies was is =
      let e : Entry = record { pass = pass; op = o; reply = given.reply } in
      acts pass_of (Legal needs old.opening) (IsGiven needs made old.opening pass o given) pass old.history old.history new.history e
      (record { longer = ([], sym (append-nil old.history)); same = refl; is_legal = was }) refl (refl, applies.0)
      (ap (λ (v : Lived). v.history) applies.1) (subst (λ x. Legal needs x new.history) (ap (λ (v : Lived). v.opening) applies.1) is)
  acts_alone old new pass o (Refused refusal) applies was is =
      let same : new.history ≡ old.history = ap (λ (v : Lived). v.history) applies.1 in (
        record { longer = ([], same ∙ sym (append-nil old.history)); same = ap (λ h. own pass h) same; is_legal = subst (λ h. Legal needs old.opening h) (sym same) was },
        subst (λ h. step needs old.opening (after needs old.opening h) pass o ≡ Refused refusal) (sym same) applies.0,
      )
  acts_alone old new pass o NoMemory applies was is =
      let same : new.history ≡ old.history = ap (λ (v : Lived). v.history) applies in
      record { longer = ([], same ∙ sym (append-nil old.history)); same = ap (λ h. own pass h) same; is_legal = subst (λ h. Legal needs old.opening h) (sym same) was }

  pub opening_alone : (old new : Lived) (pass : ℕ) (o : Op) (a : Acted (Given P) Refusal) → Applies needs made old new pass o a → new.opening ≡ old.opening
  opening_alone old new pass o (Did given) applies = ap (λ (v : Lived). v.opening) applies.1
  opening_alone old new pass o (Refused refusal) applies = ap (λ (v : Lived). v.opening) applies.1
  opening_alone old new pass o NoMemory applies = ap (λ (v : Lived). v.opening) applies

  -- a Begin

  pub can_begin : (x : Opening) (pass : ℕ) (old new : List Entry) (cookie : List ℕ) (moment : ℕ) (given : Given P) → Answered needs made x pass old new (op.Begin cookie moment) (Did given) → CanBegin given.reply given.gift
  can_begin x pass old new cookie moment given acts = subst (λ r. CanBegin r given.gift) (sym acts.said.1.reply_is) (go given.gift acts.said.1.gift)
    where
      go : (g : Gift P) → IsStart x (after needs x acts.front) cookie (max (after needs x acts.front).moment moment) g
          → CanBegin (reply.Begun (after needs x acts.front).begins (after needs x acts.front).version (number_of (begun_session x (after needs x acts.front) cookie (max (after needs x acts.front).moment moment)))) g
      go (Start tree attrs) is = tt
      go Nothing is = absurd is
      go (Made v) is = absurd is
      go (Id i) is = absurd is
      go (Picture t a b) is = absurd is
      go (Old t values) is = absurd is

  -- a request starts with what stands at the front before its entry, and after it
  pub begins : (x : Opening) (pass : ℕ) (old new : List Entry) (cookie : List ℕ) (moment : ℕ) (given : Given P) (begun : Begun) → Answered needs made x pass old new (op.Begin cookie moment) (Did given) → IsBegunBy given.reply given.gift begun
      → StartsWith (after needs x new) (Did begun)
  begins x pass old new cookie moment given begun acts told =
      go given.gift acts.said.1.gift (subst (λ r. IsBegunBy r given.gift begun) acts.said.1.reply_is told)
    where
      s : State
      s = after needs x acts.front

      r : Reply
      r = reply.Begun (after needs x acts.front).begins (after needs x acts.front).version (number_of (begun_session x (after needs x acts.front) cookie (max (after needs x acts.front).moment moment)))

      state : after needs x new ≡ moved needs x (after needs x acts.front) (record { pass = pass; op = op.Begin cookie moment; reply = reply.Begun (after needs x acts.front).begins (after needs x acts.front).version (number_of (begun_session x (after needs x acts.front) cookie (max (after needs x acts.front).moment moment))) })
      state =
          ap (λ h. after needs x h) acts.seen ∙ (after_push needs x acts.front acts.entry
          ∙ ap (λ (e : Entry). moved needs x (after needs x acts.front) e) (acts.said.0 ∙ ap (λ (r : Reply). record { pass = pass; op = op.Begin cookie moment; reply = r }) acts.said.1.reply_is))

      go : (g : Gift P) → IsStart x (after needs x acts.front) cookie (max (after needs x acts.front).moment moment) g
          → IsBegunBy (reply.Begun (after needs x acts.front).begins (after needs x acts.front).version (number_of (begun_session x (after needs x acts.front) cookie (max (after needs x acts.front).moment moment)))) g begun
          → StartsWith (after needs x new) (Did begun)
      go (Start tree attrs) is told =
          subst (λ (s : State). StartsWith s (Did begun)) (sym state)
          (subst (λ (b : Begun). StartsWith (moved needs x (after needs x acts.front) (record { pass = pass; op = op.Begin cookie moment; reply = reply.Begun (after needs x acts.front).begins (after needs x acts.front).version (number_of (begun_session x (after needs x acts.front) cookie (max (after needs x acts.front).moment moment))) })) (Did b)) (sym told)
          (is.0, is.1 ∙ sym (begun_gift needs x (after needs x acts.front) pass cookie moment)))
      go Nothing is told = absurd is
      go (Made v) is told = absurd is
      go (Id i) is told = absurd is
      go (Picture t a b) is told = absurd is
      go (Old t values) is told = absurd is

  -- a session that is made

  pub can_name : (x : Opening) (pass : ℕ) (old new : List Entry) (request : ℕ) (given : Given P) → Answered needs made x pass old new (op.Fresh request) (Did given) → CanName given.reply given.gift
  can_name x pass old new request given acts = subst (λ r. CanName r given.gift) (sym acts.said.1.reply_is) (go given.gift acts.said.1.gift)
    where
      go : (g : Gift P) → IsId x (after needs x acts.front) g → CanName (reply.Made (after needs x acts.front).freshes) g
      go (Id i) is = tt
      go Nothing is = absurd is
      go (Made v) is = absurd is
      go (Start t a) is = absurd is
      go (Picture t a b) is = absurd is
      go (Old t values) is = absurd is

  pub names : (x : Opening) (pass : ℕ) (old new : List Entry) (request : ℕ) (given : Given P) (fresh : Fresh) → Answered needs made x pass old new (op.Fresh request) (Did given) → IsFreshBy given.reply given.gift fresh
      → fresh.id ≡ id_of x.seed fresh.session
  names x pass old new request given fresh acts told = go given.gift acts.said.1.gift (subst (λ r. IsFreshBy r given.gift fresh) acts.said.1.reply_is told)
    where
      go : (g : Gift P) → IsId x (after needs x acts.front) g → IsFreshBy (reply.Made (after needs x acts.front).freshes) g fresh → fresh.id ≡ id_of x.seed fresh.session
      go (Id i) is told = ap (λ (f : Fresh). f.id) told ∙ (is ∙ ap (λ (f : Fresh). id_of x.seed f.session) (sym told))
      go Nothing is told = absurd is
      go (Made v) is told = absurd is
      go (Start t a) is told = absurd is
      go (Picture t a b) is told = absurd is
      go (Old t values) is told = absurd is

  -- a Fetch gives what is made from the tree of the request

  pub is_under_way : (run : Option Run) (request claim : ℕ) → has_run run request claim ≡ true → run ≢ None
  is_under_way None request claim has = absurd (cc)
  is_under_way (Some run) request claim has = λ none. absurd (cc)

  pub can_find : (x : Opening) (pass : ℕ) (old new : List Entry) (request : ℕ) (path : List ℕ) (given : Given P) → Answered needs made x pass old new (op.Fetch request path) (Did given) → CanFind given.reply given.gift
  can_find x pass old new request path given acts =
      subst (λ r. CanFind r given.gift) (sym acts.said.1.reply_is)
      (go _ given.gift (subst (λ r. FitsFetch made (tree_in (under_at (after needs x acts.front).runs pass)) path r given.gift) acts.said.1.reply_is acts.said.1.gift))
    where
      go : (hit : Bool) (g : Gift P) → FitsHit made hit (tree_in (under_at (after needs x acts.front).runs pass)) path g → CanFind (reply.Fetched hit) g
      go false g fits = tt
      go true (Made v) fits = tt
      go true Nothing fits = fits
      go true (Start t a) fits = fits
      go true (Id i) fits = fits
      go true (Picture t a b) fits = fits
      go true (Old t values) fits = fits

  get_index : {A : Type 0} (xs : List A) (i : ℕ) (a d : A) → slice_get xs i ≡ Some a → slice_index_or xs i d ≡ a
  get_index [] i a d h = absurd (cc)
  get_index (y ∷ xs) zero a d h = cc
  get_index (y ∷ xs) (suc i) a d h = get_index xs i a d h

  -- the tree of a request stands while its pass does nothing
  back : (x : Opening) (old front : List Entry) (more : List (List File)) (under : Option UnderWay) (fits : List File → Type 0) → trees_of x front ≡ trees_of x old ++ more → HasTree x.version (trees_of x old) under
      → ForRun x front (run_in under) fits → ForRun x old (run_in under) fits
  back x old front more None fits grown has is = is
  back x old front more (Some under) fits grown has is =
      let here : slice_index_or (trees_of x old) (under.run.version - x.version) [] ≡ under.tree = get_index (trees_of x old) (under.run.version - x.version) under.tree [] has.1 in
      let there : slice_index_or (trees_of x front) (under.run.version - x.version) [] ≡ under.tree =
      ap (λ trees. slice_index_or trees (under.run.version - x.version) []) grown
      ∙ get_index (trees_of x old ++ more) (under.run.version - x.version) under.tree [] (get_left (trees_of x old) more (under.run.version - x.version) under.tree has.1) in
      subst fits (there ∙ sym here) is

  pub fetched : {Z : Type 0} (x : Opening) (pass : ℕ) (old new : List Entry) (request : ℕ) (path : List ℕ) (given : Given P) (result : Option (Arc P Z)) → pass < x.passes → run_of (own pass old) ≢ None
      → Answered needs made x pass old new (op.Fetch request path) (Did given) → IsFoundBy given.reply given.gift result
      → IfSome result (λ v. ForRun x old (run_of (own pass old)) (λ tree. made (arc_value v) tree path))
  fetched x pass old new request path given None below some acts told = tt
  fetched x pass old new request path given (Some v) below some acts told = for_old
    where
      of_hit : (hit : Bool) (g : Gift P) (tree : List File) → FitsHit made hit tree path g → IsHitBy hit g (Some v) → made (arc_value v) tree path
      of_hit false g tree fits told = absurd (cc)
      of_hit true (Made w) tree fits told = subst (λ u. made u tree path) told fits
      of_hit true Nothing tree fits told = absurd fits
      of_hit true (Start t a) tree fits told = absurd fits
      of_hit true (Id i) tree fits told = absurd fits
      of_hit true (Picture t a b) tree fits told = absurd fits
      of_hit true (Old t values) tree fits told = absurd fits

      of_reply : (r : Reply) (g : Gift P) (tree : List File) → FitsFetch made tree path r g → IsFoundBy r g (Some v) → made (arc_value v) tree path
      of_reply (reply.Fetched hit) g tree fits told = of_hit hit g tree fits told
      of_reply other g tree fits told = absurd told

      here : made (arc_value v) (tree_in (under_at (after needs x acts.front).runs pass)) path
      here = of_reply given.reply given.gift (tree_in (under_at (after needs x acts.front).runs pass)) acts.said.1.gift told

      front_legal : Legal needs x acts.front
      front_legal = acts.stays.is_legal

      old_legal : Legal needs x old
      old_legal = legal_front needs x (start_of x) old acts.stays.longer.0 (subst (λ h. Legal needs x h) acts.stays.longer.1 acts.stays.is_legal)

      grown : (more : List (List File)) × (trees_of x acts.front ≡ trees_of x old ++ more)
      grown = let g = trees_grow x old acts.stays.longer.0 in (g.0, ap (λ h. trees_of x h) acts.stays.longer.1 ∙ g.1)

      same_run : run_of (own pass acts.front) ≡ run_of (own pass old)
      same_run = ap (λ l. run_of l) acts.stays.same

      for_front : ForRun x acts.front (run_of (own pass old)) (λ tree. made (arc_value v) tree path)
      for_front = subst (λ run. ForRun x acts.front run (λ tree. made (arc_value v) tree path)) same_run (at_front (run_of (own pass acts.front)) refl)
        where
          at_front : (run : Option Run) → run_of (own pass acts.front) ≡ run → ForRun x acts.front (run_of (own pass acts.front)) (λ tree. made (arc_value v) tree path)
          at_front None is = absurd (some (sym same_run ∙ is))
          at_front (Some run) is = to_run_tree needs x acts.front pass run (λ tree. made (arc_value v) tree path) acts.stays.is_legal below is here

      for_old : ForRun x old (run_of (own pass old)) (λ tree. made (arc_value v) tree path)
      for_old =
          let own_is : run_in (under_at (after needs x old).runs pass) ≡ run_of (own pass old) = run_is_own needs x old pass below in
          subst (λ run. ForRun x old run (λ tree. made (arc_value v) tree path)) own_is
          (back x old acts.front grown.0 (under_at (after needs x old).runs pass) (λ tree. made (arc_value v) tree path) grown.1
          (each_at (HasTree x.version (trees_of x old)) (after needs x old).runs pass None tt (trees_are needs x old old_legal).bases)
          (subst (λ run. ForRun x acts.front run (λ tree. made (arc_value v) tree path)) (sym own_is) for_front))
