-- What a request keeps when it has just begun.
use Rattle.std.specs.Prelude.{◌≡◌, ℕ, Bool, true, false, List, Option, None, option_map}
use Rattle.http_out.specs.Head.{head_of}
use Rattle.http_out.specs.declared.head.Head.{Head}
use Rattle.http_out.specs.declared.status.Status.TheVariants as status
use Rattle.out_buffer.specs.Held.{fresh}
use Rattle.pg_value.specs.Datum.{Datum}
use Rattle.request_pages.specs.declared.request_state.RequestState.{RequestState}
use Rattle.run_world.specs.declared.around.Around.{Around}
use Rattle.scopes.specs.Scopes.{starting}

-- the head of the writer before any page runs
abbrev pub empty_head : (close : Bool) → Head
empty_head close = head_of status.Ok close

-- what is kept across the pages of a request that found a session with this cookie, or none
abbrev pub around_of : (cookie : List ℕ) → (session : Option ℕ) → Around
around_of cookie session = record { depth = 0; visits = 0; charge = 0; id = option_map (λ number. cookie) session; fresh = false; exception = None }

-- the request has just begun: no page has run, and its session has these attributes
pub record IsBegun (cookie : List ℕ) (session : Option ℕ) (attrs : List (List ℕ × Datum)) (close shown : Bool) (state : RequestState) : Type 0 where
  pub scopes : state.scopes ≡ starting (option_map (λ number. attrs) session)
  pub writer : state.writer ≡ fresh (empty_head close) None true shown
  pub around : state.around ≡ around_of cookie session
