-- What a method of a request means for its response.
use Rattle.std.specs.Prelude.{ℕ, Bool, ◌||◌, not, List, codes}
use Rattle.std.specs.Str.{bytes_eq}

-- a page takes the method
unfoldable pub takes_method : List ℕ → Bool
takes_method method = bytes_eq method (codes "GET") || (bytes_eq method (codes "HEAD") || bytes_eq method (codes "POST"))

-- the field that names these methods
abbrev pub allow_field : List ℕ
allow_field = codes "Allow: GET, HEAD, POST\r\n"

-- the body of the response is shown: it is to every method but HEAD
unfoldable pub shows_body : List ℕ → Bool
shows_body method = not (bytes_eq method (codes "HEAD"))
