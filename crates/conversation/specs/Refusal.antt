-- What is told of a fault that ends a connection.
use Rattle.std.specs.Prelude.{◌≡◌, ◌≢◌, ℕ, true, List, [], Option, Some, None, codes}
use Rattle.std.specs.Io.KnownBytes.{Appends}
use Rattle.http_in.specs.declared.fault.HttpFault.{HttpFault}
use Rattle.http_in.specs.declared.fault.HttpFault.TheVariants as http
use Rattle.http_out.specs.declared.status.Status.{Status}
use Rattle.http_out.specs.declared.status.Status.TheVariants as status
use Rattle.http_out.specs.Response.{plain}
use Rattle.http_out.specs.Sent.{Sent}
use Rattle.conversation.specs.declared.ended.Ended.{Ended as Outcome}
use Rattle.conversation.specs.declared.ended.Ended.TheVariants as outcome

-- the status and the line that a fault of the bytes is answered with, where it has an answer
abbrev pub status_and_line : HttpFault → Option (Status × List ℕ)
status_and_line http.HeadTooLarge = Some (status.HeadTooLarge, codes "HeadTooLarge")
status_and_line http.BadHead = Some (status.BadRequest, codes "BadHead")
status_and_line http.WrongVersion = Some (status.VersionNotSupported, codes "WrongVersion")
status_and_line http.ChunkedRequest = Some (status.NotImplemented, codes "ChunkedRequest")
status_and_line http.BadLength = Some (status.BadRequest, codes "BadLength")
status_and_line http.BodyTooLarge = Some (status.ContentTooLarge, codes "BodyTooLarge")
status_and_line http.CutOff = None
status_and_line http.ReadFault = None

-- a plain answer, after which the connection closes
abbrev pub told_plainly : Option (Status × List ℕ) → List ℕ
told_plainly None = []
told_plainly (Some answer) = plain answer.0 true answer.1 true

-- what a fault of the bytes is answered
unfoldable pub refusal : HttpFault → List ℕ
refusal fault = told_plainly (status_and_line fault)

-- the fault is one of the bytes, and none of the source
abbrev pub IsShown : HttpFault → Type 0
IsShown fault = fault ≢ http.ReadFault

-- of the answer to a fault only a part was taken
pub record IsCutShort (fault : HttpFault) (old new : Option (List ℕ)) : Type 0 where
  pub shown : IsShown fault
  pub sent : Sent old new (refusal fault) true

-- the fault was answered
pub record IsAnswered (fault told : HttpFault) (old new : Option (List ℕ)) : Type 0 where
  pub same : told ≡ fault
  pub shown : IsShown fault
  pub written : Appends old new (refusal fault)

-- what an outcome says of a fault
abbrev pub Refuses : HttpFault → Option (List ℕ) → Option (List ℕ) → Outcome → Type 0
Refuses fault old new outcome.ReadFault = (fault ≡ http.ReadFault) × Appends old new []
Refuses fault old new outcome.WriteFault = IsCutShort fault old new
Refuses fault old new outcome.NoMemory = Appends old new []
Refuses fault old new outcome.Done = ⊥
Refuses fault old new (outcome.Refused told) = IsAnswered fault told old new
