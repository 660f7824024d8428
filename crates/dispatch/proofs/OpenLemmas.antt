-- What a Begin makes: the request is under way with the latest tree, and nothing was asked yet.
use Rattle.std.proofs.Common.{◌≡◌, ℕ, ◌+◌, ◌-◌, ◌^◌, ◌<◌, ◌≤◌, true, List, [], ◌∷◌, ◌++◌, length, Option, Some, None, refl, sym, ap, subst, ◌∙◌, arith}
use Rattle.std.specs.Prelude.{◌&&◌, nat_le, nat_lt, slice_get}
use Rattle.edges.specs.declared.acted.Acted.TheVariants.{Did}
use Rattle.pass_course.proofs.CourseLemmas.{done_acts, done_counts}
use Rattle.pass_course.proofs.UnderLemmas.{done_run}
use Rattle.request_pages.specs.Asked.{asked_after, told_after}
use Rattle.dispatch.specs.Opened.{IsOpened}
use Rattle.site_words.proofs.Good.{sessions_good}
use Rattle.site_words.proofs.Items.{and_left, and_right, get_last, le_of}
use Rattle.site_words.proofs.Legal.{legal_rest}
use Rattle.site_words.proofs.Numbers.{numbered_all}
use Rattle.site_words.proofs.OneHistory.{begun_version, version_counts, publishes_both}
use Rattle.site_words.proofs.Sound.{tree_good}
use Rattle.site_words.proofs.Trees.{trees_are}
use Rattle.site_words.specs.Calls.{Acts}
use Rattle.site_words.specs.History.{publishes}
use Rattle.site_words.specs.Invariants.{IsKept}
use Rattle.site_words.specs.Law.{Legal, LegalFrom, trees_of}
use Rattle.site_words.specs.Opening.{is_sound, sound_app, sound_counts, sound_sessions, sound_tree}
use Rattle.site_words.specs.Sessions.{session_attrs}
use Rattle.site_words.specs.State.{after, start_of}
use Rattle.site_words.specs.Step.{step as step_of}
use Rattle.site_words.specs.Trees.{Each, Needs}
use Rattle.site_words.specs.Weights.{attrs_limit, attrs_weight, op_weight, promise}
use Rattle.site_words.specs.declared.words.Entry.{Entry}
use Rattle.site_words.specs.declared.words.KeptSession.{KeptSession}
use Rattle.site_words.specs.declared.words.Op.TheVariants as op
use Rattle.site_words.specs.declared.words.Opening.{Opening}
use Rattle.site_words.specs.declared.words.Reply.TheVariants as reply
use Rattle.site_words.specs.declared.words.Run.{Run}

-- the parts of a sound opening

passes_few : (x : Opening) → is_sound x ≡ true → x.passes ≤ 64
passes_few x h =
    let counts = and_left (sound_counts x) (sound_tree x && (sound_app x && sound_sessions x)) h in
    le_of x.passes 64 (and_left (nat_le x.passes 64) (nat_lt x.version (2 ^ 63) && (nat_lt x.begins (2 ^ 63) && nat_lt x.freshes (2 ^ 63))) (and_right (nat_le 1 x.passes) _ counts))

tree_sound : (x : Opening) → is_sound x ≡ true → sound_tree x ≡ true
tree_sound x h = and_left (sound_tree x) (sound_app x && sound_sessions x) (and_right (sound_counts x) (sound_tree x && (sound_app x && sound_sessions x)) h)

sessions_sound : (x : Opening) → is_sound x ≡ true → sound_sessions x ≡ true
sessions_sound x h = and_right (sound_app x) (sound_sessions x) (and_right (sound_tree x) (sound_app x && sound_sessions x) (and_right (sound_counts x) (sound_tree x && (sound_app x && sound_sessions x)) h))

-- the attributes of a session are light

attrs_light : (freshes moment : ℕ) (sessions : List KeptSession) (session : Option ℕ) → Each (IsKept freshes moment) sessions → attrs_weight (session_attrs session sessions) ≤ attrs_limit
attrs_light freshes moment sessions None all = omega arith
attrs_light freshes moment sessions (Some number) all =
    numbered_all (IsKept freshes moment) number sessions (λ attrs. attrs_weight attrs ≤ attrs_limit) (omega arith) (λ kept is. is.2) all

pub session_light : (needs : Needs) (x : Opening) (seen : List Entry) (session : Option ℕ) → is_sound x ≡ true → Legal needs x seen → attrs_weight (session_attrs session (after needs x seen).sessions) ≤ attrs_limit
session_light needs x seen session sound legal =
    let good = sessions_good needs x seen (passes_few x sound) (sessions_sound x sound) legal in
    attrs_light (after needs x seen).freshes (after needs x seen).moment (after needs x seen).sessions session good.good.each

-- the tree is that of the version

module _ (needs : Needs) (x : Opening) (pass : ℕ) (old begun : List Entry) (cookie : List ℕ) (moment request version : ℕ) (session : Option ℕ) (acts : Acts needs x pass old begun (op.Begin cookie moment) (reply.Begun request version session)) where
  did : step_of needs x (after needs x acts.front) pass (op.Begin cookie moment) ≡ Did (reply.Begun request version session)
  did =
      let whole : Legal needs x (acts.front ++ acts.entry ∷ []) = subst (λ h. Legal needs x h) acts.seen acts.is_legal in
      let rest : LegalFrom needs x (after needs x acts.front) (acts.entry ∷ []) = legal_rest needs x (start_of x) acts.front (acts.entry ∷ []) whole in
      subst (λ (e : Entry). step_of needs x (after needs x acts.front) e.pass e.op ≡ Did e.reply) acts.said rest.0.did

  -- the version is the latest
  pub latest : version ≡ x.version + publishes acts.front
  latest = begun_version needs x acts.front pass cookie moment request version session did

  one_behind : publishes begun ≡ publishes acts.front
  one_behind =
      let entry : publishes (acts.entry ∷ []) ≡ 0 = ap (λ (e : Entry). publishes (e ∷ [])) acts.said in
      let both = publishes_both acts.front (acts.entry ∷ []) in
      ap publishes acts.seen ∙ omega (arith, both, entry)

  tree_there : slice_get (trees_of x begun) (version - x.version) ≡ Some (after needs x begun).tree
  tree_there =
      let trees = trees_are needs x begun acts.is_legal in
      let counts = version_counts needs x begun in
      let last : version - x.version ≡ length (trees_of x begun) - 1 = let l = latest in let o = one_behind in let c = trees.count in omega (arith, l, o, c, counts) in
      let some = trees.some in
      ap (slice_get (trees_of x begun)) last ∙ (get_last (trees_of x begun) (length (trees_of x begun) - 1) [] (omega (arith, some)) ∙ ap (λ t. Some t) (sym trees.latest))

  -- the request is under way with it
  pub opened : is_sound x ≡ true → pass < x.passes → length cookie ≤ 48 → IsOpened x pass begun request session (after needs x begun).tree
  opened sound within short =
      let done = done_acts needs x pass old begun (op.Begin cookie moment) (reply.Begun request version session) acts in
      let run : Run = record { request = request; version = version; session = session; left = promise - op_weight (op.Begin cookie moment) } in
      record {
        run = run;
        under = record {
          within = within;
          limits = (tree_good needs x begun (tree_sound x sound) acts.is_legal).limits;
          run_is = done_run needs x pass old begun ((op.Begin cookie moment, reply.Begun request version session) ∷ []) done;
          request_is = refl;
          tree_is = tree_there;
        };
        session_is = refl;
        left = omega (arith, short);
        asked = done_counts asked_after [] needs x pass old begun ((op.Begin cookie moment, reply.Begun request version session) ∷ []) done;
        told = done_counts (told_after x.seed) [] needs x pass old begun ((op.Begin cookie moment, reply.Begun request version session) ∷ []) done;
      }
