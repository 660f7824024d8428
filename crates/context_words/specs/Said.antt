-- What is said on a connection to several contexts.
use Rattle.std.specs.Prelude.{ℕ, Bool, List}
use Rattle.context_desk.specs.Several.{Answers, Leaves, Several}
use Rattle.conversation.specs.Exchange.{Exchange}
use Rattle.http_in.specs.declared.request.Request.{Request}
use Rattle.context_words.specs.Parts.{Lent, Part, stand_at}
use Rattle.talk_words.specs.Connection.{Connection}
use Rattle.talk_words.specs.Said.{IsLeft, IsSaid}

-- an exchange in one context, which has a draft of its own on each connection
abbrev pub IsSaidIn : {H : Type 0} → Connection × H → (close : Bool) → Part → Lent → Exchange → Part → Lent → Type 0
IsSaidIn w close a b e a' b' = IsSaid w.0 close (stand_at a b) e (stand_at a' b')

-- a request in one context for which memory ran out
abbrev pub IsLeftIn : {H : Type 0} → Connection × H → (close : Bool) → Part → Lent → Request → (text : List ℕ) → Part → Lent → Type 0
IsLeftIn w close a b request text a' b' = IsLeft w.0 close (stand_at a b) request text (stand_at a' b')

module _ {H : Type 0} (names : List (List ℕ)) (connections : List (Connection × H)) where
  -- an exchange of a connection to several contexts with these names, each with the connection to its site and the site's home
  abbrev pub IsSaidAmong : (close : Bool) → Several Part Lent → Exchange → Several Part Lent → Type 0
  IsSaidAmong close old e new = Answers names connections IsSaidIn close old e new

  -- a request of such a connection for which memory ran out
  abbrev pub IsLeftAmong : (close : Bool) → Several Part Lent → Request → (text : List ℕ) → Several Part Lent → Type 0
  IsLeftAmong close old request text new = Leaves names connections IsLeftIn close old request text new
