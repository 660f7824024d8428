-- The latest tree, its version and the requests' trees are those of the operations.
use Rattle.std.proofs.Common.{◌≡◌, ◌≢◌, ℕ, zero, suc, ◌+◌, ◌-◌, ◌≤◌, List, [], ◌∷◌, ◌++◌, length, Option, Some, None, refl, sym, ap, subst, ◌∙◌, arith, set, replicate}
use Rattle.std.specs.Prelude.{slice_get, slice_index_or}
use Rattle.std.specs.List.{fold}
use Rattle.std.proofs.lemmas.List.{length_push}
use Rattle.source_tree.specs.declared.file.File.{File}
use Rattle.source_tree.specs.Edits.{after_edits}
use Rattle.edges.specs.declared.acted.Acted.TheVariants.{Did}
use Rattle.site_words.specs.declared.words.Entry.{Entry}
use Rattle.site_words.specs.declared.words.Opening.{Opening}
use Rattle.site_words.specs.declared.words.Op.{Op}
use Rattle.site_words.specs.declared.words.Op.TheVariants as op
use Rattle.site_words.specs.declared.words.Reply.{Reply}
use Rattle.site_words.specs.declared.words.Reply.TheVariants as reply
use Rattle.site_words.specs.declared.words.Refusal.{Refusal}
use Rattle.site_words.specs.Law.{Follows, LegalFrom, Legal, trees_of, trees_after, latest_of}
use Rattle.site_words.specs.Runs.{UnderWay, under_at, under_after}
use Rattle.site_words.specs.State.{State, after, moved, start_of}
use Rattle.site_words.specs.Step.{step, stepped, refusal_of, reply_to}
use Rattle.site_words.specs.Trees.{Needs, Each}
use Rattle.site_words.proofs.Items.{each_map, each_set, each_at, get_left, get_last, at_pushed}
use Rattle.site_words.specs.Invariants.{HasTree, HasTrees}

-- what a step that was done comes from
pub did_reply : (r : Option Refusal) (p q : Reply) → stepped r p ≡ Did q → (p ≡ q) × (r ≡ None)
did_reply None p q h = (cc, refl)
did_reply (Some refusal) p q h = absurd (cc)

tree_kept : (version : ℕ) (trees more : List (List File)) (under : Option UnderWay) → HasTree version trees under → HasTree version (trees ++ more) under
tree_kept version trees more None h = tt
tree_kept version trees more (Some under) h = (h.0, get_left trees more (under.run.version - version) under.tree h.1)

-- a request that goes on keeps its version and tree
went_on : (version : ℕ) (trees : List (List File)) (latest : List File) (under : Option UnderWay) (o : Op) (r : Reply)
    → ((cookie : List ℕ) (moment : ℕ) → o ≢ op.Begin cookie moment) → HasTree version trees under → HasTree version trees (under_after latest under o r)
went_on version trees latest None (op.Publish base edits) r other h = h
went_on version trees latest (Some under) (op.Publish base edits) r other h = h
went_on version trees latest under (op.Begin cookie moment) r other h = absurd (other cookie moment refl)
went_on version trees latest None (op.App request step) r other h = h
went_on version trees latest (Some under) (op.App request step) r other h = h
went_on version trees latest None (op.Fresh request) r other h = h
went_on version trees latest (Some under) (op.Fresh request) (reply.Made session) other h = h
went_on version trees latest (Some under) (op.Fresh request) r other h = h
went_on version trees latest None (op.Fetch request path) r other h = h
went_on version trees latest (Some under) (op.Fetch request path) r other h = h
went_on version trees latest None (op.Offer request path) r other h = h
went_on version trees latest (Some under) (op.Offer request path) r other h = h
went_on version trees latest under (op.End request attrs) r other h = tt
went_on version trees latest under (op.Abandon request) r other h = tt
went_on version trees latest None (op.Snapshot cookie) r other h = h
went_on version trees latest (Some under) (op.Snapshot cookie) r other h = h
went_on version trees latest None op.Roll r other h = h
went_on version trees latest (Some under) op.Roll r other h = h

-- one entry
pub step_trees : (needs : Needs) (x : Opening) (s : State) (trees : List (List File)) (e : Entry)
    → HasTrees x.version s trees → Follows needs x s e → HasTrees x.version (moved needs x s e) (trees_after x.version trees e.op)
step_trees needs x s trees e has follows = go e.op e.reply follows.did
  where
    base : HasTree x.version trees (under_at s.runs e.pass)
    base = each_at (HasTree x.version trees) s.runs e.pass None tt has.bases

    stay : (o : Op) (r : Reply) → ((cookie : List ℕ) (moment : ℕ) → o ≢ op.Begin cookie moment) → Each (HasTree x.version trees) (set s.runs e.pass (under_after s.tree (under_at s.runs e.pass) o r))
    stay o r other = each_set (HasTree x.version trees) s.runs e.pass _ (went_on x.version trees s.tree (under_at s.runs e.pass) o r other base) has.bases

    go : (o : Op) (r : Reply) → step needs x s e.pass o ≡ Did r → HasTrees x.version (moved needs x s (record { pass = e.pass; op = o; reply = r })) (trees_after x.version trees o)
    go (op.Publish base edits) r did =
        let new : List File = after_edits edits (x.version + length trees) (latest_of trees) in
        let len : length (trees ++ new ∷ []) ≡ length trees + 1 = length_push trees new in
        let same : after_edits edits (s.version + 1) s.tree ≡ new = ap (λ n. after_edits edits n s.tree) has.count ∙ ap (after_edits edits (x.version + length trees)) has.latest in
        let last : length (trees ++ new ∷ []) - 1 ≡ length trees = omega arith in
        record {
          latest = same ∙ sym (at_pushed trees new [] (length (trees ++ new ∷ []) - 1) last);
          count = (let c = has.count in omega arith);
          some = omega arith;
          bases = each_map (HasTree x.version trees) (HasTree x.version (trees ++ new ∷ [])) _ (tree_kept x.version trees (new ∷ [])) (stay (op.Publish base edits) r (λ c m h. absurd (cc)));
        }
    go (op.Begin cookie moment) r did =
        let is = (did_reply (refusal_of needs x s e.pass (op.Begin cookie moment)) (reply_to needs x s e.pass (op.Begin cookie moment)) r did).0 in
        let c = has.count in
        let some = has.some in
        let least : x.version ≤ s.version = omega arith in
        let at : s.version - x.version + 1 ≡ length trees = omega arith in
        let at' : length trees - 1 ≡ s.version - x.version = omega arith in
        let found : slice_get trees (s.version - x.version) ≡ Some s.tree =
        get_last trees (s.version - x.version) [] at ∙ ap Some (ap (λ k. slice_index_or trees k []) (sym at') ∙ sym has.latest) in
        record {
          latest = has.latest;
          count = has.count;
          some = has.some;
          bases = subst (λ r. Each (HasTree x.version trees) (set s.runs e.pass (under_after s.tree (under_at s.runs e.pass) (op.Begin cookie moment) r))) is
              (each_set (HasTree x.version trees) s.runs e.pass _ (least, found) has.bases);
        }
    go (op.App request step) r did = record { latest = has.latest; count = has.count; some = has.some; bases = stay (op.App request step) r (λ c m h. absurd (cc)) }
    go (op.Fresh request) r did = record { latest = has.latest; count = has.count; some = has.some; bases = stay (op.Fresh request) r (λ c m h. absurd (cc)) }
    go (op.Fetch request path) r did = record { latest = has.latest; count = has.count; some = has.some; bases = stay (op.Fetch request path) r (λ c m h. absurd (cc)) }
    go (op.Offer request path) r did = record { latest = has.latest; count = has.count; some = has.some; bases = stay (op.Offer request path) r (λ c m h. absurd (cc)) }
    go (op.End request attrs) r did = record { latest = has.latest; count = has.count; some = has.some; bases = stay (op.End request attrs) r (λ c m h. absurd (cc)) }
    go (op.Abandon request) r did = record { latest = has.latest; count = has.count; some = has.some; bases = stay (op.Abandon request) r (λ c m h. absurd (cc)) }
    go (op.Snapshot cookie) r did = record { latest = has.latest; count = has.count; some = has.some; bases = stay (op.Snapshot cookie) r (λ c m h. absurd (cc)) }
    go op.Roll r did = record { latest = has.latest; count = has.count; some = has.some; bases = stay op.Roll r (λ c m h. absurd (cc)) }

fold_trees : (needs : Needs) (x : Opening) (s : State) (trees : List (List File)) (entries : List Entry) → HasTrees x.version s trees → LegalFrom needs x s entries
    → HasTrees x.version (fold (moved needs x) s entries) (fold (λ trees (e : Entry). trees_after x.version trees e.op) trees entries)
fold_trees needs x s trees [] has legal = has
fold_trees needs x s trees (e ∷ entries) has legal = fold_trees needs x (moved needs x s e) (trees_after x.version trees e.op) entries (step_trees needs x s trees e has legal.0) legal.1

none_have : (version : ℕ) (trees : List (List File)) (n : ℕ) → Each (HasTree version trees) (replicate n None)
none_have version trees zero = tt
none_have version trees (suc n) = (tt, none_have version trees n)

-- the trees of a legal history are those of its operations
pub trees_are : (needs : Needs) (x : Opening) (history : List Entry) → Legal needs x history → HasTrees x.version (after needs x history) (trees_of x history)
trees_are needs x history legal =
    fold_trees needs x (start_of x) (x.tree ∷ []) history (record { latest = refl; count = refl; some = omega arith; bases = none_have x.version (x.tree ∷ []) x.passes }) legal
