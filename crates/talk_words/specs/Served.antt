-- What the answer to a request comes to that goes one way.
use Rattle.std.specs.Prelude.{ℕ, Bool, List, Option}
use Rattle.conversation.specs.Exchange.{Exchange}
use Rattle.conversation.specs.Served.{Served}
use Rattle.conversation.specs.declared.desk.Outcome.{Outcome}
use Rattle.http_in.specs.declared.request.Request.{Request}
use Rattle.talk_words.specs.Connection.{Connection, Stand}
use Rattle.talk_words.specs.Said.{Leaves, Says}
use Rattle.talk_words.specs.declared.way.Way.{Way}

-- what an outcome says of a request that goes this way: before and after are the sink's count of
-- faults, taken and now its bytes
abbrev pub ServedOn : Connection → Way → Bool → Request → Stand → Stand → ℕ → ℕ → Option (List ℕ) → Option (List ℕ) → Outcome → Type 0
ServedOn w route close request a b before after taken now answer =
    Served (λ close old (e : Exchange) new. Says w route e.request close old e.text e.broken new) (λ close old request text new. Leaves w route request close old text new) close request a b before after taken now answer
