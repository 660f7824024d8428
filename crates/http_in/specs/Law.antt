-- Bytes are cut into requests in one way.
use Rattle.std.specs.Prelude.{◌≡◌, ◌≢◌, List, ℕ}
use Rattle.http_in.specs.declared.request.Request.{Request}
use Rattle.http_in.specs.Requests.{Stop, Full, Cut}

-- two cuts of the same bytes, neither of which stops because no more are read, are the same
abbrev pub HasOneCut : Type 0
HasOneCut =
    (bytes : List ℕ) (requests others : List Request) (stop other : Stop) → Cut bytes requests stop → Cut bytes others other
    → stop ≢ Full → other ≢ Full → (requests ≡ others) × (stop ≡ other)
