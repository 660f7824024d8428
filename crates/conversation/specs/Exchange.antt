-- One request with its response.
use Rattle.std.specs.Prelude.{ℕ, Bool, List}
use Rattle.http_in.specs.declared.request.Request.{Request}

-- a request, the bytes that answer it, and whether they are an unfinished response
pub record Exchange : Type 0 where
  pub request : Request
  pub text : List ℕ
  pub broken : Bool

-- these three as an exchange
abbrev pub exchange_of : Request → List ℕ → Bool → Exchange
exchange_of request text broken = record { request = request; text = text; broken = broken }

-- the request of an exchange
abbrev pub request_in : Exchange → Request
request_in e = e.request
