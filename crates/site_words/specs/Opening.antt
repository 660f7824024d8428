-- Which openings a site may have, and the one that a state without requests is.
use Rattle.std.specs.Prelude.{ℕ, ◌^◌, Bool, true, false, ◌&&◌, not, ◌==◌, nat_lt, nat_le, List, [], ◌∷◌, length, Option, Some, None}
use Rattle.std.specs.List.{list_any}
use Rattle.pg_value.specs.Datum.{Datum}
use Rattle.pg_value.specs.Limits.{is_over}
use Rattle.source_tree.specs.declared.file.File.{File}
use Rattle.source_tree.specs.declared.fault.TreeFault.{TreeFault}
use Rattle.source_tree.specs.Limits.{tree_fault}
use Rattle.site_words.specs.declared.limits.TheConstants.{MAX_PASSES}
use Rattle.site_words.specs.declared.words.KeptSession.{KeptSession}
use Rattle.site_words.specs.declared.words.Opening.{Opening}
use Rattle.site_words.specs.Sessions.{most_sessions}
use Rattle.site_words.specs.State.{State}
use Rattle.site_words.specs.Trees.{every}
use Rattle.site_words.specs.Weights.{attrs_weight, attrs_limit}

-- there is no fault
abbrev pub no_fault : Option TreeFault → Bool
no_fault None = true
no_fault (Some fault) = false

-- no two sessions have one number
abbrev pub are_distinct : List KeptSession → Bool
are_distinct [] = true
are_distinct (kept ∷ sessions) = not (list_any (λ (other : KeptSession). other.number == kept.number) sessions) && are_distinct sessions

-- the session was made before the opening, wasn't used after its moment, and has attributes within
-- their limit
abbrev pub is_sound_session : Opening → KeptSession → Bool
is_sound_session x kept = nat_lt kept.number x.freshes && (nat_le kept.used x.moment && nat_le (attrs_weight kept.attrs) attrs_limit)

-- there are 1 to 64 passes, and the counts are below 2^63
abbrev pub sound_counts : Opening → Bool
sound_counts x = nat_le 1 x.passes && (nat_le x.passes MAX_PASSES && (nat_lt x.version (2 ^ 63) && (nat_lt x.begins (2 ^ 63) && nat_lt x.freshes (2 ^ 63))))

-- the tree keeps its limits, and no stamp is later than the version
abbrev pub sound_tree : Opening → Bool
sound_tree x = no_fault (tree_fault x.tree) && every (λ (file : File). nat_le file.stamp x.version) x.tree

-- each application value keeps the limits of a value
abbrev pub sound_app : Opening → Bool
sound_app x = every (λ (e : List ℕ × Datum). not (is_over e.1)) x.app

-- there are few enough sessions, distinct ones, each as it should be
abbrev pub sound_sessions : Opening → Bool
sound_sessions x = nat_le (length x.sessions) most_sessions && (are_distinct x.sessions && every (is_sound_session x) x.sessions)

-- a site may have the opening
abbrev pub is_sound : Opening → Bool
is_sound x = sound_counts x && (sound_tree x && (sound_app x && sound_sessions x))

-- the opening that goes on from a state without requests under way
abbrev pub next_opening : Opening → State → Opening
next_opening x s = record {
  seed = x.seed;
  limit = x.limit;
  passes = x.passes;
  idle = x.idle;
  version = s.version;
  begins = s.begins;
  freshes = s.freshes;
  moment = s.moment;
  app = s.app;
  tree = s.tree;
  sessions = s.sessions;
}
