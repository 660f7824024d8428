-- What a page run keeps of its session and its response, and what it takes of its promise.
use Rattle.std.specs.Prelude.{◌≡◌, ◌⊎◌, ◌+◌, ◌≤◌, ℕ, List, Bool, true, false, Option, Some, None, is_some}
use Rattle.http_out.specs.declared.head.Head.{Head}
use Rattle.out_buffer.specs.Held.{Held}
use Rattle.run_stage.specs.declared.limits.TheConstants.{MAX_ASKED_CHARGE}
use Rattle.run_world.specs.declared.around.Around.{Around}
use Rattle.pg_value.specs.Datum.{rec, entries_of}
use Rattle.pg_value.specs.Weight.{weight_of}
use Rattle.scopes.specs.Scopes.{Entries}
use Rattle.site_words.specs.Running.{Asking}

-- the weight of a session's attributes, 0 where there is none
abbrev pub session_weight : Option Entries → ℕ
session_weight None = 0
session_weight (Some entries) = weight_of (rec (entries_of entries))

-- what a run takes of the promise at most, by whether there was a session and whether there is: 64 more for one that it made
abbrev pub fresh_claim : (before now : Bool) → ℕ
fresh_claim false true = 64
fresh_claim before now = 0

-- the charge is as it was or below its limit, and the promise fell by no more than the charge rose, but for a session that the run made
pub record HasCharged (old new : Around) (before now : Asking) : Type 0 where
  pub charge : (new.charge ≡ old.charge) ⊎ (new.charge ≤ MAX_ASKED_CHARGE)
  pub promise : old.charge + before.left ≤ new.charge + now.left + fresh_claim (is_some old.id) (is_some new.id)

-- a session that was there is there still, and it is known as before whether its request made it
pub record KeepsSession (old new : Around) : Type 0 where
  pub stays : is_some old.id ≡ true → (new.id ≡ old.id) × (new.fresh ≡ old.fresh)

-- a head that names this session, where the request made it
abbrev pub naming : Head → Option (List ℕ) → (fresh : Bool) → Head
naming head (Some id) true = record head { set_cookie = Some id }
naming head id fresh = head

-- the head of a response after a run: as it was, but that it names a session which came to be
abbrev pub head_after : Head → (before : Bool) → Option (List ℕ) → (fresh : Bool) → Head
head_after head true id fresh = head
head_after head false id fresh = naming head id fresh

-- the head is as it was, but that it names a session which the run made; what else was chosen for the response stands
pub record KeepsResponse (old new : Held) (before now : Around) : Type 0 where
  pub head : new.head ≡ head_after old.head (is_some before.id) now.id now.fresh
  pub shown : new.shown ≡ old.shown
