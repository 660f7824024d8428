-- One step of a site.
use Rattle.std.specs.Prelude.{ℕ, ◌+◌, ◌&&◌, ◌==◌, nat_lt, List, Option, Some, None, if◌then◌else◌}
use Rattle.source_tree.specs.declared.fault.TreeFault.{TreeFault}
use Rattle.source_tree.specs.Edits.{after_edits}
use Rattle.source_tree.specs.Limits.{tree_fault}
use Rattle.site_words.specs.declared.words.KeptSession.{KeptSession}
use Rattle.site_words.specs.declared.words.Opening.{Opening}
use Rattle.site_words.specs.declared.words.Op.{Op}
use Rattle.site_words.specs.declared.words.Op.TheVariants as op
use Rattle.site_words.specs.declared.words.Reply.{Reply}
use Rattle.site_words.specs.declared.words.Reply.TheVariants as reply
use Rattle.site_words.specs.declared.words.Refusal.{Refusal}
use Rattle.site_words.specs.declared.words.Refusal.TheVariants.{Stale, TreeTooLarge, Busy, JournalFull}
use Rattle.edges.specs.declared.acted.Acted.{Acted}
use Rattle.edges.specs.declared.acted.Acted.TheVariants.{Did, Refused}
use Rattle.site_words.specs.App.{app_reply}
use Rattle.site_words.specs.Ready.{dirty_of}
use Rattle.site_words.specs.Runs.{under_at, tree_in, promised}
use Rattle.site_words.specs.Sessions.{session_at, number_of, holder, awake, moment_after}
use Rattle.site_words.specs.State.{State}
use Rattle.source_tree.specs.Changed.{changed}
use Rattle.pg_text.specs.Names.{has_name}
use Rattle.site_words.specs.Trees.{Needs, agrees}
use Rattle.site_words.specs.Weights.{promise, op_weight, weight_with}

-- a session that is held is there whatever the moment
abbrev pub shown : Option ℕ → ℕ → ℕ → Option KeptSession → Option KeptSession
shown (Some request) idle moment kept = kept
shown None idle moment kept = awake idle moment kept

-- the free session that a Begin gets at this moment: the one of the cookie, where it has not ended
abbrev pub begun_session : Opening → State → List ℕ → ℕ → Option KeptSession
begun_session x s cookie moment = awake x.idle moment (session_at x.seed cookie s.sessions)

-- the session of a picture: the one of the cookie, held or free, unless it is free and has ended by now
abbrev pub snapped_session : Opening → State → List ℕ → Option KeptSession
snapped_session x s cookie = shown (holder (session_at x.seed cookie s.sessions) s.runs) x.idle s.moment (session_at x.seed cookie s.sessions)

-- the reply that an operation gets where it isn't refused
abbrev pub reply_to : Needs → Opening → State → ℕ → Op → Reply
reply_to needs x s pass (op.Publish base edits) = reply.Published (s.version + 1) (dirty_of needs s.tree (changed edits s.tree) s.ready)
reply_to needs x s pass (op.Begin cookie moment) = reply.Begun s.begins s.version (number_of (begun_session x s cookie (moment_after s.moment (op.Begin cookie moment))))
reply_to needs x s pass (op.App request step) = reply.App (app_reply s.app step)
reply_to needs x s pass (op.Fresh request) = reply.Made s.freshes
reply_to needs x s pass (op.Fetch request path) = reply.Fetched (has_name path s.ready && agrees (needs s.tree path) (tree_in (under_at s.runs pass)))
reply_to needs x s pass (op.Offer request path) = reply.Offered (agrees (needs (tree_in (under_at s.runs pass)) path) s.tree)
reply_to needs x s pass (op.End request attrs) = reply.Ended
reply_to needs x s pass (op.Abandon request) = reply.Dropped
reply_to needs x s pass (op.Snapshot cookie) = reply.Snapped s.version (number_of (snapped_session x s cookie))
reply_to needs x s pass op.Roll = reply.Rolled

-- the journal is full: what it weighs, what is promised and what is claimed are together over the limit
abbrev pub full_of : ℕ → ℕ → ℕ → ℕ → Option Refusal
full_of limit weight promises claim = if nat_lt limit (weight + promises + claim) then Some (JournalFull weight promises) else None

-- the journal of this state has no room for the claim
abbrev pub full : Opening → State → ℕ → Option Refusal
full x s claim = full_of x.limit s.weight (promised s.runs) claim

-- the base is named and isn't the latest version
abbrev pub stale : Option ℕ → ℕ → Option Refusal
stale None version = None
stale (Some base) version = if base == version then None else Some (Stale version)

-- the tree would pass a limit
abbrev pub too_large : Option TreeFault → Option Refusal
too_large None = None
too_large (Some fault) = Some (TreeTooLarge fault)

-- a request holds the session
abbrev pub busy : Option ℕ → Option Refusal
busy None = None
busy (Some request) = Some (Busy request)

-- the first refusal, where there is one, else the second
abbrev pub or_else : Option Refusal → Option Refusal → Option Refusal
or_else None other = other
or_else (Some refusal) other = Some refusal

-- why an operation is refused, where it is: a publishing as stale, then as too large, then for want of room; a Begin as busy, then for want of room; a picture for want of room; nothing else is refused
abbrev pub refusal_of : Needs → Opening → State → ℕ → Op → Option Refusal
refusal_of needs x s pass (op.Publish base edits) =
    or_else (stale base s.version)
    (or_else (too_large (tree_fault (after_edits edits (s.version + 1) s.tree)))
    (full x s (weight_with (op.Publish base edits) (reply_to needs x s pass (op.Publish base edits)))))
refusal_of needs x s pass (op.Begin cookie moment) = or_else (busy (holder (session_at x.seed cookie s.sessions) s.runs)) (full x s promise)
refusal_of needs x s pass (op.Snapshot cookie) = full x s (op_weight (op.Snapshot cookie))
refusal_of needs x s pass other = None

-- done where there is no refusal
abbrev pub stepped : Option Refusal → Reply → Acted Reply Refusal
stepped None r = Did r
stepped (Some refusal) r = Refused refusal

-- what the operation comes to unless memory runs out
abbrev pub step : Needs → Opening → State → ℕ → Op → Acted Reply Refusal
step needs x s pass o = stepped (refusal_of needs x s pass o) (reply_to needs x s pass o)
