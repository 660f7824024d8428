-- The laws of legal histories.
use Rattle.std.specs.Prelude.{◌≡◌, ◌≢◌, ℕ, ◌+◌, ◌<◌, ◌≤◌, ◌^◌, true, false, List, [], ◌∷◌, ◌++◌, length, Option, nat_le, slice_index_or}
use Rattle.source_tree.specs.declared.edit.Edit.{Edit}
use Rattle.source_tree.specs.declared.file.File.{File}
use Rattle.source_tree.specs.Changed.{changed}
use Rattle.source_tree.specs.Edits.{after_edits}
use Rattle.source_tree.specs.Order.{IsInOrder}
use Rattle.edges.specs.declared.acted.Acted.TheVariants.{Did}
use Rattle.pg_text.specs.Names.{AreInOrder, has_name}
use Rattle.site_words.specs.declared.limits.TheConstants.{MAX_PASSES}
use Rattle.site_words.specs.declared.words.Entry.{Entry}
use Rattle.source_tree.specs.declared.need.Need.{Need}
use Rattle.site_words.specs.declared.words.Op.{Op}
use Rattle.site_words.specs.declared.words.Op.TheVariants as op
use Rattle.site_words.specs.declared.words.Opening.{Opening}
use Rattle.site_words.specs.declared.words.Reply.{Reply}
use Rattle.site_words.specs.declared.words.Reply.TheVariants as reply
use Rattle.site_words.specs.Fits.{fits}
use Rattle.site_words.specs.History.{AreOneHistory, publishes}
use Rattle.site_words.specs.Invariants.{AllRest, AreApart, HasSessions, HasSoundTree, HasTrees, IsWithin}
use Rattle.site_words.specs.Law.{Legal, May, Sure, own, run_of, trees_of}
use Rattle.site_words.specs.Opening.{is_sound, next_opening, sound_app, sound_sessions, sound_tree}
use Rattle.site_words.specs.Runs.{run_at}
use Rattle.site_words.specs.State.{after}
use Rattle.site_words.specs.Step.{full, refusal_of, step}
use Rattle.site_words.specs.Trees.{Needs, OneHistory, agrees, every, meets}
use Rattle.source_tree.specs.Stamps.{stamp_of}
use Rattle.site_words.specs.Weights.{promise}

-- what a pass may do, it may do until it has one entry more of its own
abbrev pub MayLasts : Type 0
MayLasts = (x : Opening) (front more : List Entry) (pass : ℕ) (o : Op) → May x front pass (own pass front) o → own pass (front ++ more) ≡ own pass front → May x (front ++ more) pass (own pass (front ++ more)) o

-- what is done for sure is so until the pass has one entry more of its own
abbrev pub SureLasts : Type 0
SureLasts = (x : Opening) (front more : List Entry) (pass : ℕ) (o : Op) → Sure x front pass (own pass front) o → own pass (front ++ more) ≡ own pass front → Sure x (front ++ more) pass (own pass (front ++ more)) o

-- a pass's own entries decide the request that it has under way
abbrev pub OwnDecides : Type 0
OwnDecides = (needs : Needs) (x : Opening) (history : List Entry) (pass : ℕ) → pass < x.passes → run_at (after needs x history).runs pass ≡ run_of (own pass history)

-- what a pass may do by its own entries fits the state,
abbrev pub MayFits : Type 0
MayFits = (needs : Needs) (x : Opening) (front : List Entry) (pass : ℕ) (o : Op) → Legal needs x front → May x front pass (own pass front) o → fits x (after needs x front) pass o ≡ true

-- and what fits the state the pass may do, but for a Roll
abbrev pub FitsMay : Type 0
FitsMay = (needs : Needs) (x : Opening) (front : List Entry) (pass : ℕ) (o : Op) → Legal needs x front → o ≢ op.Roll → fits x (after needs x front) pass o ≡ true → May x front pass (own pass front) o

-- what a pass may do and is done makes a legal history again
abbrev pub DoneIsLegal : Type 0
DoneIsLegal = (needs : Needs) (x : Opening) (front : List Entry) (pass : ℕ) (o : Op) (r : Reply) → Legal needs x front → May x front pass (own pass front) o → step needs x (after needs x front) pass o ≡ Did r
    → Legal needs x (front ++ record { pass = pass; op = o; reply = r } ∷ [])

-- each request under way has the tree of its version
abbrev pub RequestsHaveTheirTrees : Type 0
RequestsHaveTheirTrees = (needs : Needs) (x : Opening) (history : List Entry) → Legal needs x history → HasTrees x.version (after needs x history) (trees_of x history)

-- a path and a stamp have one text in all trees of a history
abbrev pub StampsNameTexts : Type 0
StampsNameTexts = (x : Opening) (history : List Entry) → every (λ (file : File). nat_le file.stamp x.version) x.tree ≡ true → AreOneHistory (x.version + length (trees_of x history)) (trees_of x history)

-- so any two of them have one file where they have one stamp
abbrev pub StampsNameFiles : Type 0
StampsNameFiles = (stamps : ℕ) (trees : List (List File)) (i j : ℕ) → AreOneHistory stamps trees → OneHistory (slice_index_or trees i []) (slice_index_or trees j [])

-- a name that the edits of a tree don't change stands after them as before
abbrev pub UnchangedStands : Type 0
UnchangedStands = (name : List ℕ) (stamp : ℕ) (edits : List Edit) (old tree : List File) → has_name name (changed edits old) ≡ false → stamp_of name tree ≡ stamp_of name old → stamp_of name (after_edits edits stamp tree) ≡ stamp_of name old

-- needs of which none is changed stand so afterwards
abbrev pub NeedsStand : Type 0
NeedsStand = (needs : List Need) (names : List (List ℕ)) (old new : List File) → meets needs names ≡ false → agrees needs old ≡ true → ((name : List ℕ) → has_name name names ≡ false → stamp_of name new ≡ stamp_of name old) → agrees needs new ≡ true

-- the version is the opening's and one more for each publishing,
abbrev pub VersionCounts : Type 0
VersionCounts = (needs : Needs) (x : Opening) (front : List Entry) → (after needs x front).version ≡ x.version + publishes front

-- and a request has the version of the front at which it begins,
abbrev pub BeginsLatest : Type 0
BeginsLatest = (needs : Needs) (x : Opening) (front : List Entry) (pass : ℕ) (cookie : List ℕ) (moment request version : ℕ) (session : Option ℕ)
    → step needs x (after needs x front) pass (op.Begin cookie moment) ≡ Did (reply.Begun request version session) → version ≡ x.version + publishes front

-- which never becomes older
abbrev pub NeverOlder : Type 0
NeverOlder = (needs : Needs) (x : Opening) (front more : List Entry) → (after needs x front).version ≤ (after needs x (front ++ more)).version

-- promises are kept: the journal has room for all that is promised, and each request can end
abbrev pub PromisesAreKept : Type 0
PromisesAreKept = (needs : Needs) (x : Opening) (history : List Entry) → sound_app x ≡ true → Legal needs x history → IsWithin x (after needs x history)

-- sessions stay distinct, few and light, and those that are held are there
abbrev pub SessionsAreGood : Type 0
SessionsAreGood = (needs : Needs) (x : Opening) (history : List Entry) → x.passes ≤ MAX_PASSES → sound_sessions x ≡ true → Legal needs x history → HasSessions x (after needs x history)

-- a session is held by one request at most
abbrev pub SessionsAreApart : Type 0
SessionsAreApart = (needs : Needs) (x : Opening) (history : List Entry) → x.passes ≤ MAX_PASSES → sound_sessions x ≡ true → Legal needs x history → AreApart (after needs x history).runs

-- where no request is under way, a Begin is refused for want of room alone
abbrev pub NeverBusyAlone : Type 0
NeverBusyAlone = (needs : Needs) (x : Opening) (history : List Entry) (pass moment : ℕ) (cookie : List ℕ) → AllRest x history → refusal_of needs x (after needs x history) pass (op.Begin cookie moment) ≡ full x (after needs x history) promise

-- the latest tree keeps its limits
abbrev pub TreeIsSound : Type 0
TreeIsSound = (needs : Needs) (x : Opening) (history : List Entry) → sound_tree x ≡ true → Legal needs x history → HasSoundTree (after needs x history)

-- files and ready paths stay in byte order
abbrev pub OrderStays : Type 0
OrderStays = (needs : Needs) (x : Opening) (history : List Entry) → IsInOrder x.tree → IsInOrder (after needs x history).tree × AreInOrder (after needs x history).ready

-- a history up to its Roll and one that goes on from there are one legal history
abbrev pub RollsOver : Type 0
RollsOver = (needs : Needs) (x : Opening) (old new : List Entry) (pass : ℕ) → let rolled : List Entry = old ++ record { pass = pass; op = op.Roll; reply = reply.Rolled } ∷ [] in
    Legal needs x rolled → Legal needs (next_opening x (after needs x rolled)) new → Legal needs x (rolled ++ new)

-- the opening that goes on is sound, as long as the counts are below 2^63
abbrev pub NextIsSound : Type 0
NextIsSound = (needs : Needs) (x : Opening) (history : List Entry) → is_sound x ≡ true → Legal needs x history → (after needs x history).version < 2 ^ 63 → (after needs x history).begins < 2 ^ 63 → (after needs x history).freshes < 2 ^ 63
    → is_sound (next_opening x (after needs x history)) ≡ true
