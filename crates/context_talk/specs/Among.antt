-- A connection to several contexts.
use Rattle.std.specs.Prelude.{◌≡◌, ℕ, List, [], map, Option}
use Rattle.context_desk.specs.Several.{several_of}
use Rattle.context_words.specs.Parts.{Lent, Part, part_of}
use Rattle.context_words.specs.Said.{IsLeftAmong, IsSaidAmong}
use Rattle.conversation.specs.Conversation.{Tells}
use Rattle.conversation.specs.declared.ended.Ended.{Ended}
use Rattle.compiled_pages.specs.Pages.{needs_at}
use Rattle.site_words.specs.declared.words.Entry.{Entry}
use Rattle.site_words.specs.declared.words.Opening.{Opening}
use Rattle.talk_words.specs.Connection.{Connection, connection_of}
use Rattle.talk_words.specs.declared.role.Role.{Role}

-- the connections to the sites behind these ports, each with the site's home
abbrev pub connections_of : {P H : Type 0} → (P → Opening) → (P → ℕ) → (P → H) → Role → List P → List (Connection × H)
connections_of {P = P} opening pass home role ports =
    map (λ (port : P). (connection_of needs_at (opening port) (pass port) role, home port)) ports

-- what each context has at the beginning: no draft, and what its pass has seen
abbrev pub first_parts : List (List Entry) → List Part
first_parts seen = map (λ (s : List Entry). part_of [] s) seen

-- the requests of one connection were answered, each in its context: seen and now are what the passes had and have seen, old
-- and new what was lent, left and later what the source had and has left, before and after the sink's count of faults, taken
-- and has what the sink had and has taken
pub record TalkedAmong {H : Type 0} (names : List (List ℕ)) (connections : List (Connection × H)) (seen now : List (List Entry))
    (old new : Lent) (left later : Option (List ℕ)) (before after : ℕ) (taken has : Option (List ℕ)) (ended : Ended) : Type 0 where
  pub parts : List Part
  pub parts_are : map (λ (part : Part). part.seen) parts ≡ now
  pub talk :
      Tells (IsSaidAmong names connections) (IsLeftAmong names connections) (several_of (first_parts seen) old) (several_of parts new)
      left later before after taken has ended
