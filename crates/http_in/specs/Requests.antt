-- The requests that stand in bytes, one after the other, and what stops them.
use Rattle.std.specs.Prelude.{◌≡◌, ◌≢◌, ◌<◌, ◌≤◌, ◌+◌, ◌⊎◌, ℕ, List, [], ◌∷◌, length, take, drop, Some, None, ⊤}
use Rattle.httparse.specs.Grammar.{RequestHead}
use Rattle.http_in.specs.declared.fault.HttpFault.{HttpFault}
use Rattle.http_in.specs.declared.fault.HttpFault.TheVariants as http
use Rattle.http_in.specs.declared.limits.TheConstants.{MAX_HEAD_BYTES}
use Rattle.http_in.specs.declared.request.Request.{Request}
use Rattle.http_in.specs.Fields.{fields_of}
use Rattle.http_in.specs.Head.{IsGoodHead, IsBadHead}
use Rattle.http_in.specs.Request.{request_of}
use Rattle.http_in.specs.HeadEnd.{head_len, skip_pairs, front_of}

-- the request stands whole at the front of the bytes, and rest comes after it
pub record StandsFirst (bytes : List ℕ) (request : Request) (rest : List ℕ) : Type 0 where
  pub len : ℕ
  pub head : RequestHead
  pub size : ℕ
  pub ends : head_len (front_of bytes) ≡ Some len
  pub is_good : IsGoodHead (take len bytes) head size
  pub whole : len + size ≤ length bytes
  pub request_is : request ≡ request_of head.method head.target (fields_of head) (take size (drop len bytes))
  pub rest_is : rest ≡ drop (len + size) bytes

-- the bytes end between requests: there are only CR LF pairs, and too few for a fault
pub record IsEnd (bytes : List ℕ) : Type 0 where
  pub ends : head_len (front_of bytes) ≡ None
  pub short : length bytes < MAX_HEAD_BYTES
  pub skipped : skip_pairs bytes ≡ []

-- the bytes end inside a head
pub record EndsInHead (bytes : List ℕ) : Type 0 where
  pub ends : head_len (front_of bytes) ≡ None
  pub short : length bytes < MAX_HEAD_BYTES
  pub begun : skip_pairs bytes ≢ []

-- the bytes end inside a body
pub record EndsInBody (bytes : List ℕ) : Type 0 where
  pub len : ℕ
  pub head : RequestHead
  pub size : ℕ
  pub ends : head_len (front_of bytes) ≡ Some len
  pub is_good : IsGoodHead (take len bytes) head size
  pub short : length bytes < len + size

-- 16,384 bytes are there and hold no end of a head
pub record HasNoHead (bytes : List ℕ) : Type 0 where
  pub ends : head_len (front_of bytes) ≡ None
  pub long : MAX_HEAD_BYTES ≤ length bytes

-- a head ends in time, and has this fault
pub record HasBadHead (bytes : List ℕ) (fault : HttpFault) : Type 0 where
  pub len : ℕ
  pub ends : head_len (front_of bytes) ≡ Some len
  pub bad : IsBadHead (take len bytes) fault

-- the bytes end inside a request
abbrev pub IsCutOff : List ℕ → Type 0
IsCutOff bytes = EndsInHead bytes ⊎ EndsInBody bytes

-- no request stands whole in the bytes, and no fault, while more may follow
abbrev pub IsUnfinished : List ℕ → Type 0
IsUnfinished bytes = IsEnd bytes ⊎ IsCutOff bytes

-- the fault stands at the front of the bytes; an input that was cut off has no bytes behind them
abbrev pub HasFault : HttpFault → List ℕ → Type 0
HasFault http.HeadTooLarge bytes = HasNoHead bytes
HasFault http.CutOff bytes = IsCutOff bytes
HasFault http.ReadFault bytes = ⊥
HasFault fault bytes = HasBadHead bytes fault

-- these requests stand at the front of the bytes, one after the other, and rest comes after them
abbrev pub Front : List ℕ → List Request → List ℕ → Type 0
Front bytes [] rest = rest ≡ bytes
Front bytes (request ∷ requests) rest = (between : List ℕ) × StandsFirst bytes request between × Front between requests rest

-- where the requests of a text stop: at its end, where no more are read, or at a fault
pub data Stop : Type 0 where
  Ended Full : Stop
  Faulted : HttpFault → Stop

-- what stands in the place of a further request
abbrev pub StopsAt : Stop → List ℕ → Type 0
StopsAt Ended bytes = IsEnd bytes
StopsAt Full bytes = ⊤
StopsAt (Faulted fault) bytes = HasFault fault bytes

-- the bytes are these requests and then what stops them
pub record Cut (bytes : List ℕ) (requests : List Request) (stop : Stop) : Type 0 where
  pub rest : List ℕ
  pub front : Front bytes requests rest
  pub stops : StopsAt stop rest
