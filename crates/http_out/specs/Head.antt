-- The head of a response as text.
use Rattle.std.specs.Prelude.{ℕ, Bool, false, List, [], ◌++◌, Option, Some, None, codes, decimal, if◌then◌else◌}
use Rattle.http_out.specs.declared.head.Head.{Head}
use Rattle.http_out.specs.declared.status.Status.{Status}
use Rattle.http_out.specs.Methods.{allow_field}
use Rattle.http_out.specs.Status.{status_text, names_methods}

-- a field, where it has a value
abbrev pub field : List ℕ → Option (List ℕ) → List ℕ → List ℕ
field name None end = []
field name (Some value) end = name ++ value ++ end

-- the field that gives the length of the body
abbrev pub sized : ℕ → List ℕ
sized length = codes "Content-Length: " ++ decimal length ++ codes "\r\n"

-- the field that says that the body comes in chunks
abbrev pub chunked : List ℕ
chunked = codes "Transfer-Encoding: chunked\r\n"

-- the field for the length of a body, where the length is known before the body is
abbrev pub measured : Option ℕ → List ℕ
measured None = chunked
measured (Some length) = sized length

-- a head with this field for the length of the body: the status line, the fields in this order, and an empty line
unfoldable pub head_text : Head → List ℕ → List ℕ
head_text head length =
    codes "HTTP/1.1 " ++ status_text head.status ++ codes "\r\n" ++ field (codes "Content-Type: ") head.content_type (codes "\r\n")
    ++ field (codes "Set-Cookie: JSESSIONID=") head.set_cookie (codes "; Path=/; HttpOnly\r\n") ++ field (codes "Location: ") head.location (codes "\r\n")
    ++ (if head.allow then allow_field else []) ++ length
    ++ (if head.close then codes "Connection: close\r\n" else []) ++ codes "\r\n"

-- a head that says its status alone, and whether the connection closes behind the response
abbrev pub head_of : Status → (close : Bool) → Head
head_of status close = record { status = status; content_type = None; set_cookie = None; location = None; allow = false; close = close }

-- the type of a plain answer
abbrev pub plain_type : List ℕ
plain_type = codes "text/plain;charset=UTF-8"

-- the head of a plain answer
abbrev pub plain_head : Status → Bool → Head
plain_head status close = record (head_of status close) { content_type = Some plain_type; allow = names_methods status }
