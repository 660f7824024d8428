-- The site on which a preview runs may open.
use Rattle.std.proofs.Common.{◌≡◌, ℕ, ◌+◌, ◌≤◌, ◌^◌, true, List, [], ◌∷◌, Option, Some, None, refl, arith, lit<}
use Rattle.std.specs.Prelude.{◌&&◌, not, nat_le, nat_lt}
use Rattle.std.specs.Ordering.{is_lt, is_gt}
use Rattle.pg_text.specs.Order.{path_cmp}
use Rattle.pg_value.specs.Datum.{Datum}
use Rattle.pg_value.specs.Limits.{is_over}
use Rattle.preview_words.specs.Laws.{AreRunnable}
use Rattle.preview_words.specs.Own.{own_freshes, own_opening, picture_of, Picture}
use Rattle.site_words.proofs.Good.{sessions_good}
use Rattle.site_words.proofs.Items.{and_both, and_left, and_right, each_both, each_every, each_filter, each_map, le_of, to_le, to_lt}
use Rattle.site_words.proofs.Numbers.{numbered_all}
use Rattle.site_words.proofs.Promise.{within}
use Rattle.site_words.proofs.Sound.{tree_good}
use Rattle.site_words.specs.Invariants.{IsKept, StampsUpTo}
use Rattle.site_words.specs.Opening.{no_fault, sound_app, sound_counts, sound_sessions, sound_tree}
use Rattle.site_words.specs.Sessions.{session_attrs}
use Rattle.site_words.specs.State.{State, after}
use Rattle.site_words.specs.Trees.{Each}
use Rattle.site_words.specs.Weights.{attrs_weight}
use Rattle.site_words.specs.declared.words.KeptSession.{KeptSession}
use Rattle.site_words.specs.declared.words.Opening.{Opening}
use Rattle.source_tree.specs.Edits.{after_edits, edited}
use Rattle.source_tree.specs.Limits.{tree_fault}
use Rattle.source_tree.specs.declared.edit.Edit.{Edit}
use Rattle.source_tree.specs.declared.edit.Edit.TheVariants.{Put, Delete}
use Rattle.source_tree.specs.declared.fault.TreeFault.{TreeFault}
use Rattle.source_tree.specs.declared.file.File.{File}

-- stamps behind edits

stamps_one : (n : ℕ) (edit : Edit) (files : List File) → StampsUpTo n files → StampsUpTo n (edited edit n files)
stamps_one n (Put path text) files all =
    each_both (λ (f : File). f.stamp ≤ n) _ _ (each_filter (λ (f : File). f.stamp ≤ n) (λ other. is_lt (path_cmp other.path path)) files all)
    ((let b : n ≤ n = omega arith in b), each_filter (λ (f : File). f.stamp ≤ n) (λ other. is_gt (path_cmp other.path path)) files all)
stamps_one n (Delete path) files all = each_filter (λ (f : File). f.stamp ≤ n) _ files all

stamps_all : (n : ℕ) (edits : List Edit) (files : List File) → StampsUpTo n files → StampsUpTo n (after_edits edits n files)
stamps_all n [] files all = all
stamps_all n (edit ∷ edits) files all = stamps_all n edits (edited edit n files) (stamps_one n edit files all)

none_no_fault : (o : Option TreeFault) → o ≡ None → no_fault o ≡ true
none_no_fault None h = refl
none_no_fault (Some f) h = absurd (cc)

few_freshes : (session : Option ℕ) → nat_lt (own_freshes session) (2 ^ 63) ≡ true
few_freshes None = to_lt 0 (2 ^ 63) (lit< tt)
few_freshes (Some number) = to_lt 1 (2 ^ 63) (lit< tt)

-- the sessions of such an opening
sound_kept : (tree : List File) (app : List (List ℕ × Datum)) (version : ℕ) (session : Option ℕ) (attrs : List (List ℕ × Datum)) → attrs_weight attrs ≤ 65536
    → sound_sessions (own_opening tree (record { version = version; tree = tree; app = app; session = session; attrs = attrs })) ≡ true
sound_kept tree app version None attrs light = refl
sound_kept tree app version (Some number) attrs light = let l : nat_le (attrs_weight attrs) 65536 ≡ true = to_le (attrs_weight attrs) 65536 light in rw l refl

light_session : (session : Option ℕ) (sessions : List KeptSession) (freshes moment : ℕ) → Each (IsKept freshes moment) sessions → attrs_weight (session_attrs session sessions) ≤ 65536
light_session None sessions freshes moment all = lit< tt
light_session (Some number) sessions freshes moment all = numbered_all (IsKept freshes moment) number sessions (λ attrs. attrs_weight attrs ≤ 65536) (lit< tt) (λ k h. h.2) all

pub runnable : AreRunnable
runnable needs x seen edits session sound legal behind fault =
    let s : State = after needs x seen in
    let picture : Picture = picture_of s s.version session in
    let tree : List File = after_edits edits (s.version + 1) s.tree in
    let attrs : List (List ℕ × Datum) = session_attrs session s.sessions in
    let y : Opening = own_opening tree picture in
    let counts = and_left (sound_counts x) (sound_tree x && (sound_app x && sound_sessions x)) sound in
    let more = and_right (sound_counts x) (sound_tree x && (sound_app x && sound_sessions x)) sound in
    let tree_is = and_left (sound_tree x) (sound_app x && sound_sessions x) more in
    let app_is = and_left (sound_app x) (sound_sessions x) (and_right (sound_tree x) (sound_app x && sound_sessions x) more) in
    let sessions_are = and_right (sound_app x) (sound_sessions x) (and_right (sound_tree x) (sound_app x && sound_sessions x) more) in
    let most = and_left (nat_le x.passes 64) (nat_lt x.version (2 ^ 63) && (nat_lt x.begins (2 ^ 63) && nat_lt x.freshes (2 ^ 63))) (and_right (nat_le 1 x.passes) (nat_le x.passes 64 && (nat_lt x.version (2 ^ 63) && (nat_lt x.begins (2 ^ 63) && nat_lt x.freshes (2 ^ 63)))) counts) in
    let was = tree_good needs x seen tree_is legal in
    let has = sessions_good needs x seen (le_of x.passes 64 most) sessions_are legal in
    let kept = within needs x seen app_is legal in
    let stamps = stamps_all (s.version + 1) edits s.tree (each_map (λ (f : File). f.stamp ≤ s.version) (λ (f : File). f.stamp ≤ s.version + 1) s.tree (λ f h. let b : f.stamp ≤ s.version + 1 = omega arith in b) was.stamps) in
    let light : attrs_weight attrs ≤ 65536 = light_session session s.sessions s.freshes s.moment has.good.each in
    and_both (sound_counts y) (sound_tree y && (sound_app y && sound_sessions y))
    (and_both (nat_lt (s.version + 1) (2 ^ 63)) _ (to_lt (s.version + 1) (2 ^ 63) behind) (few_freshes session))
    (and_both (sound_tree y) (sound_app y && sound_sessions y)
    (and_both (no_fault (tree_fault tree)) _ (none_no_fault (tree_fault tree) fault)
    (each_every (λ (file : File). nat_le file.stamp (s.version + 1)) tree (each_map (λ (f : File). f.stamp ≤ s.version + 1) (λ (f : File). nat_le f.stamp (s.version + 1) ≡ true) tree (λ f h. to_le f.stamp (s.version + 1) h) stamps)))
    (and_both (sound_app y) (sound_sessions y) (each_every (λ (e : List ℕ × Datum). not (is_over e.1)) s.app kept.app)
    (sound_kept tree s.app s.version session attrs light)))
