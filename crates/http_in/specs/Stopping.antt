-- Why reading a head or a body stops before its end.
use Rattle.std.specs.Prelude.{◌≡◌, ◌<◌, ℕ, List, length, Option, None}
use Rattle.std.specs.Io.KnownBytes.{IsAtEnd}
use Rattle.http_in.specs.declared.fault.HttpFault.{HttpFault}
use Rattle.http_in.specs.declared.fault.HttpFault.TheVariants as http
use Rattle.http_in.specs.declared.limits.TheConstants.{MAX_HEAD_BYTES}
use Rattle.http_in.specs.HeadEnd.{head_len, front_of}
use Rattle.http_in.specs.Requests.{EndsInHead, HasNoHead}

-- this fault stops the reading of a head, with these bytes there
abbrev pub StopsHead : Option (List ℕ) → List ℕ → HttpFault → Type 0
StopsHead left bytes http.HeadTooLarge = HasNoHead bytes
StopsHead left bytes http.CutOff = EndsInHead bytes × IsAtEnd left
StopsHead left bytes http.ReadFault = (head_len (front_of bytes) ≡ None) × (length bytes < MAX_HEAD_BYTES)
StopsHead left bytes fault = ⊥

-- this fault stops the reading until so many bytes are there
abbrev pub StopsBody : ℕ → Option (List ℕ) → List ℕ → HttpFault → Type 0
StopsBody need left bytes http.CutOff = (length bytes < need) × IsAtEnd left
StopsBody need left bytes http.ReadFault = length bytes < need
StopsBody need left bytes fault = ⊥
