-- The tree stays within its limits, in order and with stamps up to its version; ready paths stay in order; and what goes on from a state is an opening again.
use Rattle.std.proofs.Common.{◌≡◌, ℕ, ◌+◌, ◌<◌, ◌≤◌, ◌^◌, List, [], ◌∷◌, length, Option, Some, None, refl, arith, true}
use Rattle.std.specs.Prelude.{◌&&◌, not, nat_le, nat_lt}
use Rattle.std.specs.List.{fold}
use Rattle.std.specs.Ordering.{is_lt, is_gt}
use Rattle.pg_value.specs.Datum.{Datum}
use Rattle.pg_value.specs.Limits.{is_over}
use Rattle.source_tree.specs.declared.file.File.{File}
use Rattle.source_tree.specs.declared.edit.Edit.{Edit}
use Rattle.source_tree.specs.declared.edit.Edit.TheVariants.{Put, Delete}
use Rattle.source_tree.specs.declared.fault.TreeFault.{TreeFault}
use Rattle.source_tree.specs.Edits.{edited, after_edits}
use Rattle.source_tree.specs.Limits.{tree_fault}
use Rattle.pg_text.specs.Order.{path_cmp}
use Rattle.source_tree.specs.Order.{IsInOrder}
use Rattle.source_tree.proofs.OrderLemmas.{order_edited}
use Rattle.edges.specs.declared.acted.Acted.TheVariants.{Did}
use Rattle.site_words.specs.declared.words.Entry.{Entry}
use Rattle.site_words.specs.declared.words.Opening.{Opening}
use Rattle.site_words.specs.declared.words.Op.{Op}
use Rattle.site_words.specs.declared.words.Op.TheVariants as op
use Rattle.site_words.specs.declared.words.Reply.{Reply}
use Rattle.site_words.specs.declared.words.Reply.TheVariants as reply
use Rattle.site_words.specs.declared.words.Refusal.{Refusal}
use Rattle.site_words.specs.Law.{Follows, LegalFrom, Legal}
use Rattle.site_words.specs.Opening.{no_fault, are_distinct, is_sound_session, sound_counts, sound_tree, sound_app, sound_sessions, is_sound, next_opening}
use Rattle.pg_text.specs.Names.{AreInOrder}
use Rattle.site_words.specs.Ready.{offered, ready_after}
use Rattle.pg_text.proofs.NameOrder.{none_in_order, order_with_name}
use Rattle.pg_text.proofs.NameLemmas.{order_left}
use Rattle.site_words.specs.State.{State, after, moved, start_of, tree_after}
use Rattle.site_words.specs.Step.{step, refusal_of, reply_to, stale, too_large, or_else}
use Rattle.source_tree.specs.Changed.{changed}
use Rattle.site_words.specs.Trees.{Needs, every, meets}
use Rattle.site_words.specs.Weights.{attrs_weight}
use Rattle.site_words.proofs.Good.{sessions_good}
use Rattle.site_words.proofs.Items.{each_map, each_both, each_filter, each_every, every_each, and_left, and_right, and_both, le_of, to_le, to_lt}
use Rattle.site_words.proofs.Promise.{within}
use Rattle.site_words.proofs.Trees.{did_reply}
use Rattle.site_words.specs.Invariants.{IsKept, StampsUpTo, HasSoundTree}

-- the tree

stamps_one : (n : ℕ) (edit : Edit) (files : List File) → StampsUpTo n files → StampsUpTo n (edited edit n files)
stamps_one n (Put path text) files all =
    each_both (λ (f : File). f.stamp ≤ n) _ _ (each_filter (λ (f : File). f.stamp ≤ n) (λ other. is_lt (path_cmp other.path path)) files all)
    ((let b : n ≤ n = omega arith in b), each_filter (λ (f : File). f.stamp ≤ n) (λ other. is_gt (path_cmp other.path path)) files all)
stamps_one n (Delete path) files all = each_filter (λ (f : File). f.stamp ≤ n) _ files all

stamps_all : (n : ℕ) (edits : List Edit) (files : List File) → StampsUpTo n files → StampsUpTo n (after_edits edits n files)
stamps_all n [] files all = all
stamps_all n (edit ∷ edits) files all = stamps_all n edits (edited edit n files) (stamps_one n edit files all)

order_all : (n : ℕ) (edits : List Edit) (files : List File) → IsInOrder files → IsInOrder (after_edits edits n files)
order_all n [] files order = order
order_all n (edit ∷ edits) files order = order_all n edits (edited edit n files) (order_edited edit n files order)

none_first : (a b : Option Refusal) → or_else a b ≡ None → a ≡ None
none_first None b h = refl
none_first (Some r) b h = absurd (cc)

none_second : (a b : Option Refusal) → or_else a b ≡ None → b ≡ None
none_second None b h = h
none_second (Some r) b h = absurd (cc)

none_fault : (o : Option TreeFault) → too_large o ≡ None → o ≡ None
none_fault None h = refl
none_fault (Some f) h = absurd (cc)

step_tree : (needs : Needs) (x : Opening) (s : State) (e : Entry) → HasSoundTree s → Follows needs x s e → HasSoundTree (moved needs x s e)
step_tree needs x s e has follows = go e.op e.reply follows.did
  where
    go : (o : Op) (r : Reply) → step needs x s e.pass o ≡ Did r → HasSoundTree (moved needs x s (record { pass = e.pass; op = o; reply = r }))
    go (op.Publish base edits) r did =
        let none = (did_reply (refusal_of needs x s e.pass (op.Publish base edits)) (reply_to needs x s e.pass (op.Publish base edits)) r did).1 in
        let fault = none_fault (tree_fault (after_edits edits (s.version + 1) s.tree)) (none_first _ _ (none_second (stale base s.version) _ none)) in
        record {
          limits = fault;
          stamps = stamps_all (s.version + 1) edits s.tree (each_map (λ (f : File). f.stamp ≤ s.version) (λ (f : File). f.stamp ≤ s.version + 1) s.tree (λ f h. let b : f.stamp ≤ s.version + 1 = omega arith in b) has.stamps);
        }
    go (op.Begin cookie moment) r did = record { limits = has.limits; stamps = has.stamps }
    go (op.App request st) r did = record { limits = has.limits; stamps = has.stamps }
    go (op.Fresh request) r did = record { limits = has.limits; stamps = has.stamps }
    go (op.Fetch request path) r did = record { limits = has.limits; stamps = has.stamps }
    go (op.Offer request path) r did = record { limits = has.limits; stamps = has.stamps }
    go (op.End request attrs) r did = record { limits = has.limits; stamps = has.stamps }
    go (op.Abandon request) r did = record { limits = has.limits; stamps = has.stamps }
    go (op.Snapshot cookie) r did = record { limits = has.limits; stamps = has.stamps }
    go op.Roll r did = record { limits = has.limits; stamps = has.stamps }

fold_tree : (needs : Needs) (x : Opening) (s : State) (entries : List Entry) → HasSoundTree s → LegalFrom needs x s entries → HasSoundTree (fold (moved needs x) s entries)
fold_tree needs x s [] has legal = has
fold_tree needs x s (e ∷ entries) has legal = fold_tree needs x (moved needs x s e) entries (step_tree needs x s e has legal.0) legal.1

fault_none : (o : Option TreeFault) → no_fault o ≡ true → o ≡ None
fault_none None h = refl
fault_none (Some f) h = absurd (cc)

-- the tree of a legal history is within its limits, and no stamp exceeds its version
pub tree_good : (needs : Needs) (x : Opening) (history : List Entry) → sound_tree x ≡ true → Legal needs x history → HasSoundTree (after needs x history)
tree_good needs x history sound legal =
    fold_tree needs x (start_of x) history
    (record {
      limits = fault_none (tree_fault x.tree) (and_left (no_fault (tree_fault x.tree)) (every (λ (file : File). nat_le file.stamp x.version) x.tree) sound);
      stamps = each_map (λ (f : File). nat_le f.stamp x.version ≡ true) (λ (f : File). f.stamp ≤ x.version) x.tree (λ f h. le_of f.stamp x.version h)
          (every_each (λ (file : File). nat_le file.stamp x.version) x.tree (and_right (no_fault (tree_fault x.tree)) (every (λ (file : File). nat_le file.stamp x.version) x.tree) sound));
    }) legal

step_order : (tree : List File) (version : ℕ) (o : Op) → IsInOrder tree → IsInOrder (tree_after tree version o)
step_order tree version (op.Publish base edits) order = order_all (version + 1) edits tree order
step_order tree version other order = order

fold_order : (needs : Needs) (x : Opening) (s : State) (entries : List Entry) → IsInOrder s.tree → IsInOrder (fold (moved needs x) s entries).tree
fold_order needs x s [] order = order
fold_order needs x s (e ∷ entries) order = fold_order needs x (moved needs x s e) entries (step_order s.tree s.version e.op order)

-- the tree of any history is in order
pub tree_in_order : (needs : Needs) (x : Opening) (history : List Entry) → IsInOrder x.tree → IsInOrder (after needs x history).tree
tree_in_order needs x history order = fold_order needs x (start_of x) history order

-- ready paths

offered_order : (path : List ℕ) (ready : List (List ℕ)) (r : Reply) → AreInOrder ready → AreInOrder (offered path ready r)
offered_order path ready (reply.Offered true) order = order_with_name path ready order
offered_order path ready r order = order

ready_order : (needs : Needs) (latest : List File) (ready : List (List ℕ)) (o : Op) (r : Reply) → AreInOrder ready → AreInOrder (ready_after needs latest ready o r)
ready_order needs latest ready (op.Publish base edits) r order = order_left (λ path. not (meets (needs latest path) (changed edits latest))) ready order
ready_order needs latest ready (op.Offer request path) r order = offered_order path ready r order
ready_order needs latest ready op.Roll r order = none_in_order
ready_order needs latest ready other r order = order

fold_ready : (needs : Needs) (x : Opening) (s : State) (entries : List Entry) → AreInOrder s.ready → AreInOrder (fold (moved needs x) s entries).ready
fold_ready needs x s [] order = order
fold_ready needs x s (e ∷ entries) order = fold_ready needs x (moved needs x s e) entries (ready_order needs s.tree s.ready e.op e.reply order)

-- the ready paths of any history are in byte order, each once
pub ready_in_order : (needs : Needs) (x : Opening) (history : List Entry) → AreInOrder (after needs x history).ready
ready_in_order needs x history = fold_ready needs x (start_of x) history none_in_order

-- openings

none_no_fault : (o : Option TreeFault) → o ≡ None → no_fault o ≡ true
none_no_fault None h = refl
none_no_fault (Some f) h = absurd (cc)

-- what goes on from a legal history is an opening, as long as its counts are small
pub next_sound : (needs : Needs) (x : Opening) (history : List Entry) → is_sound x ≡ true → Legal needs x history
    → (after needs x history).version < 2 ^ 63 → (after needs x history).begins < 2 ^ 63 → (after needs x history).freshes < 2 ^ 63
    → is_sound (next_opening x (after needs x history)) ≡ true
next_sound needs x history sound legal versions begins freshes =
    let s : State = after needs x history in
    let y : Opening = next_opening x s in
    let counts = and_left (sound_counts x) (sound_tree x && (sound_app x && sound_sessions x)) sound in
    let more = and_right (sound_counts x) (sound_tree x && (sound_app x && sound_sessions x)) sound in
    let tree_is = and_left (sound_tree x) (sound_app x && sound_sessions x) more in
    let app_is = and_left (sound_app x) (sound_sessions x) (and_right (sound_tree x) (sound_app x && sound_sessions x) more) in
    let sessions_are = and_right (sound_app x) (sound_sessions x) (and_right (sound_tree x) (sound_app x && sound_sessions x) more) in
    let one = and_left (nat_le 1 x.passes) (nat_le x.passes 64 && (nat_lt x.version (2 ^ 63) && (nat_lt x.begins (2 ^ 63) && nat_lt x.freshes (2 ^ 63)))) counts in
    let most = and_left (nat_le x.passes 64) (nat_lt x.version (2 ^ 63) && (nat_lt x.begins (2 ^ 63) && nat_lt x.freshes (2 ^ 63))) (and_right (nat_le 1 x.passes) (nat_le x.passes 64 && (nat_lt x.version (2 ^ 63) && (nat_lt x.begins (2 ^ 63) && nat_lt x.freshes (2 ^ 63)))) counts) in
    let tree = tree_good needs x history tree_is legal in
    let has = sessions_good needs x history (le_of x.passes 64 most) sessions_are legal in
    let kept = within needs x history app_is legal in
    and_both (sound_counts y) (sound_tree y && (sound_app y && sound_sessions y))
    (and_both (nat_le 1 x.passes) _ one (and_both (nat_le x.passes 64) _ most
    (and_both (nat_lt s.version (2 ^ 63)) _ (to_lt s.version (2 ^ 63) versions) (and_both (nat_lt s.begins (2 ^ 63)) (nat_lt s.freshes (2 ^ 63)) (to_lt s.begins (2 ^ 63) begins) (to_lt s.freshes (2 ^ 63) freshes)))))
    (and_both (sound_tree y) (sound_app y && sound_sessions y)
    (and_both (no_fault (tree_fault s.tree)) _ (none_no_fault (tree_fault s.tree) tree.limits)
    (each_every (λ (file : File). nat_le file.stamp s.version) s.tree (each_map (λ (f : File). f.stamp ≤ s.version) (λ (f : File). nat_le f.stamp s.version ≡ true) s.tree (λ f h. to_le f.stamp s.version h) tree.stamps)))
    (and_both (sound_app y) (sound_sessions y) (each_every (λ (e : List ℕ × Datum). not (is_over e.1)) s.app kept.app)
    (and_both (nat_le (length s.sessions) 4096) (are_distinct s.sessions && every (is_sound_session y) s.sessions) (to_le (length s.sessions) 4096 has.good.few)
    (and_both (are_distinct s.sessions) (every (is_sound_session y) s.sessions) has.good.distinct
    (each_every (is_sound_session y) s.sessions (each_map (IsKept s.freshes s.moment) (λ k. is_sound_session y k ≡ true) s.sessions
    (λ k h. and_both (nat_lt k.number s.freshes) (nat_le k.used s.moment && nat_le (attrs_weight k.attrs) 65536) (to_lt k.number s.freshes h.0)
    (and_both (nat_le k.used s.moment) (nat_le (attrs_weight k.attrs) 65536) (to_le k.used s.moment h.1) (to_le (attrs_weight k.attrs) 65536 h.2))) has.good.each))))))
