-- What a status is written as.
use Rattle.std.specs.Prelude.{ℕ, Bool, true, false, List, codes}
use Rattle.http_out.specs.declared.status.Status.{Status}
use Rattle.http_out.specs.declared.status.Status.TheVariants as status

-- the number of a status and its phrase
abbrev pub status_text : Status → List ℕ
status_text status.Ok = codes "200 OK"
status_text status.Found = codes "302 Found"
status_text status.BadRequest = codes "400 Bad Request"
status_text status.NotFound = codes "404 Not Found"
status_text status.MethodNotAllowed = codes "405 Method Not Allowed"
status_text status.Conflict = codes "409 Conflict"
status_text status.ContentTooLarge = codes "413 Content Too Large"
status_text status.HeadTooLarge = codes "431 Request Header Fields Too Large"
status_text status.InternalServerError = codes "500 Internal Server Error"
status_text status.NotImplemented = codes "501 Not Implemented"
status_text status.ServiceUnavailable = codes "503 Service Unavailable"
status_text status.VersionNotSupported = codes "505 HTTP Version Not Supported"

-- whether the methods are named that a page takes
abbrev pub names_methods : Status → Bool
names_methods status.MethodNotAllowed = true
names_methods other = false
