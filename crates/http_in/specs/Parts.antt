-- What is kept of a head.
use Rattle.std.specs.Prelude.{◌≡◌, ℕ, List}
use Rattle.httparse.specs.Grammar.{RequestHead}
use Rattle.http_in.specs.declared.head.Head.{Head}
use Rattle.http_in.specs.Fields.{fields_of}
use Rattle.http_in.specs.Head.{IsGoodHead}

-- the bytes are a head that is read, and these are its parts
pub record HasParts (bytes : List ℕ) (parts : Head) : Type 0 where
  pub head : RequestHead
  pub is_good : IsGoodHead bytes head parts.size
  pub method : parts.method ≡ head.method
  pub target : parts.target ≡ head.target
  pub fields : parts.fields ≡ fields_of head
