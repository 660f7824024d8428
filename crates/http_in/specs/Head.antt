-- Which heads are read, and what they say.
use Rattle.std.specs.Prelude.{◌≡◌, ◌≤◌, ◌⊎◌, ◌||◌, ℕ, not, List, [], length, codes, nat_eq, nat_lt, ◌==◌, Option, Some, None, Result, Ok, Err, if◌then◌else◌}
use Rattle.std.specs.List.{starts_with}
use Rattle.httparse.specs.Grammar.{RequestHead, ReadsRequest}
use Rattle.http_in.specs.declared.fault.HttpFault.{HttpFault}
use Rattle.http_in.specs.declared.fault.HttpFault.TheVariants as http
use Rattle.http_in.specs.declared.fields.Field.{Field}
use Rattle.http_in.specs.declared.limits.TheConstants.{MAX_BODY_BYTES, MAX_FIELDS}
use Rattle.http_in.specs.Fields.{fields_of, values_of}
use Rattle.http_in.specs.Length.{size_of}

-- the bytes are, whole, a head of the grammar, with at most 64 fields
pub record IsHead (bytes : List ℕ) (head : RequestHead) : Type 0 where
  pub reads : ReadsRequest bytes head []
  pub few : length head.fields ≤ MAX_FIELDS

-- the bytes are no such head
abbrev pub IsNoHead : List ℕ → Type 0
IsNoHead bytes = (head : RequestHead) → IsHead bytes head → ⊥

-- the size, where it is at most 2,097,152 bytes
abbrev pub within_limit : Option ℕ → Result ℕ HttpFault
within_limit None = Err http.BadLength
within_limit (Some size) = if nat_lt MAX_BODY_BYTES size then Err http.BodyTooLarge else Ok size

-- the size of the body after a head of this version, target and fields, or the first fault of the head in this order:
-- the version is HTTP/1.0; the target doesn't begin with a slash, or not exactly one field is named Host; a field is named
-- Transfer-Encoding; the Content-Length fields give no size; the size is too large
abbrev pub sized : ℕ → List ℕ → List Field → Result ℕ HttpFault
sized minor target fields =
    if minor == 0 then Err http.WrongVersion
    else (if not (starts_with nat_eq target (codes "/")) || not (length (values_of (codes "host") fields) == 1) then Err http.BadHead
    else (if not (length (values_of (codes "transfer-encoding") fields) == 0) then Err http.ChunkedRequest
    else within_limit (size_of (values_of (codes "content-length") fields))))

-- the same of a head
abbrev pub size_after : RequestHead → Result ℕ HttpFault
size_after head = sized head.minor head.target (fields_of head)

-- the bytes are a head that is read, and its body has that size
pub record IsGoodHead (bytes : List ℕ) (head : RequestHead) (size : ℕ) : Type 0 where
  pub is_head : IsHead bytes head
  pub size_is : size_after head ≡ Ok size

-- the bytes are no head that is read, by this fault
abbrev pub IsBadHead : List ℕ → HttpFault → Type 0
IsBadHead bytes fault = (IsNoHead bytes × (fault ≡ http.BadHead)) ⊎ ((head : RequestHead) × IsHead bytes head × (size_after head ≡ Err fault))
