-- The command `play`: its words, the site on which it starts, and its status.
use Rattle.std.specs.Prelude.{ℕ, ◌&&◌, List, [], ◌∷◌, codes, replicate, Option, Some, None, if◌then◌else◌}
use Rattle.std.specs.Str.{bytes_eq}
use Rattle.edges.specs.Clock.{Moments}
use Rattle.conversation.specs.Conversation.{Tells}
use Rattle.conversation.specs.declared.ended.Ended.{Ended}
use Rattle.conversation.specs.declared.ended.Ended.TheVariants.{Done, Refused, ReadFault, WriteFault, NoMemory}
use Rattle.talk_words.specs.Standing.{standing_of}
use Rattle.compiled_pages.specs.Pages.{needs_at}
use Rattle.site_core.specs.Lived.{first_opening}
use Rattle.site_words.specs.Seed.{seed_of}
use Rattle.site_words.specs.declared.words.Entry.{Entry}
use Rattle.site_words.specs.declared.words.Opening.{Opening}
use Rattle.site_words.specs.declared.limits.TheConstants.{IDLE_SECONDS, JOURNAL_LIMIT}
use Rattle.source_tree.specs.declared.edit.Edit.{Edit}
use Rattle.talk_words.specs.Connection.{Connection, connection_of, stand_of}
use Rattle.talk_words.specs.Grown.{HasGrown}
use Rattle.talk_words.specs.Said.{IsLeft, IsSaid}
use Rattle.talk_words.specs.declared.role.Role.TheVariants.{Both}

-- the seed where none is named: 32 zeros
abbrev pub first_seed : List ℕ
first_seed = replicate 32 0

-- the seed that the words ask for: they are `play`, or `play`, `--seed` and the digits of a seed
abbrev pub seed_asked : List (List ℕ) → Option (List ℕ)
seed_asked [] = None
seed_asked (word ∷ []) = if bytes_eq word (codes "play") then Some first_seed else None
seed_asked (word ∷ option ∷ []) = None
seed_asked (word ∷ option ∷ digits ∷ []) = if bytes_eq word (codes "play") && bytes_eq option (codes "--seed") then seed_of digits else None
seed_asked (word ∷ option ∷ digits ∷ next ∷ words) = None

-- the opening of the site: it has no files, its journal may weigh 2 GiB, one pass acts, and sessions end once they weren't used for more than half an hour
abbrev pub opening_of : (seed : List ℕ) → Opening
opening_of seed = first_opening seed [] [] JOURNAL_LIMIT 1 IDLE_SECONDS

-- the one connection to a site, an editor's too
abbrev pub only_connection : Opening → Connection
only_connection x = connection_of needs_at x 0 Both

-- the connection was talked on from the beginning of a site with this opening: moments and still are what its clock told and tells, steps and now the counts of bytes read
pub record HasTalked (x : Opening) (moments still : Moments) (steps now : ℕ) (left later : Option (List ℕ)) (before after : ℕ) (old new : Option (List ℕ)) (ended : Ended) : Type 0 where
  pub draft : List Edit
  pub history : List Entry
  pub talk : Tells (IsSaid (only_connection x)) (IsLeft (only_connection x)) (stand_of [] (standing_of [] moments steps)) (stand_of draft (standing_of history still now)) left later before after old new ended
  pub grown : HasGrown needs_at x 0 [] history

-- the status of the program
abbrev pub exit_status : Ended → ℕ
exit_status Done = 0
exit_status (Refused fault) = 2
exit_status ReadFault = 3
exit_status WriteFault = 4
exit_status NoMemory = 5
