-- What a page run answers with, as responses.
use Rattle.std.specs.Prelude.{ℕ, Bool, true, false, List, [], ◌++◌, codes, nat_eq, Option, Some, None, if◌then◌else◌}
use Rattle.std.specs.List.{ends_with}
use Rattle.http_out.specs.Head as heads
use Rattle.http_out.specs.Response.{Response}
use Rattle.http_out.specs.declared.head.Head.{Head}
use Rattle.http_out.specs.declared.status.Status.{Status}
use Rattle.http_out.specs.declared.status.Status.TheVariants as status_is
use Rattle.page_meaning.specs.Page.{Page}
use Rattle.page_meaning.specs.State.{State}
use Rattle.site_words.specs.PageSteps.{Step}

-- what a request is answered, with the state in which it ends; or the step that has no answer yet
pub data Answered : Type 0 where
  responds : Response → State → Answered
  awaits : Step → State → Answered

-- the state in which a request ends or waits
abbrev pub end_state : Answered → State
end_state (responds response s) = s
end_state (awaits step s) = s

-- the id of the session that this request made
abbrev pub new_id : Bool → Option (List ℕ) → Option (List ℕ)
new_id true id = id
new_id false id = None

-- a head with the id of a new session; whether the connection closes is not the page's to say
abbrev pub head_of : Status → (content_type location : Option (List ℕ)) → State → Head
head_of status content_type location s =
    record (heads.head_of status false) { content_type = content_type; set_cookie = new_id s.is_fresh s.id; location = location }

-- a response with these bytes, none of them committed
abbrev pub whole : Status → (content_type : List ℕ) → List ℕ → State → Answered
whole status content_type bytes s = responds (record { head = head_of status (Some content_type) None s; pieces = []; rest = bytes; broken = false }) s

-- a plain answer: one line
abbrev pub plain_line : Status → List ℕ → State → Answered
plain_line status line s = whole status heads.plain_type (line ++ codes "\n") s

-- the plain answer where no file is found
abbrev pub not_found : State → Answered
not_found s = plain_line status_is.NotFound (codes "NotFound") s

-- the content type of a file by the suffix of its path
abbrev pub file_type : List ℕ → List ℕ
file_type path =
    (if ends_with nat_eq path (codes ".html") then codes "text/html"
    else (if ends_with nat_eq path (codes ".css") then codes "text/css"
    else (if ends_with nat_eq path (codes ".js") then codes "text/javascript"
    else (if ends_with nat_eq path (codes ".json") then codes "application/json"
    else codes "text/plain")))) ++ codes ";charset=UTF-8"

-- the bytes behind those that were committed, none of a response that is broken off
abbrev pub rest_of : Bool → List ℕ → List ℕ
rest_of true buffer = []
rest_of false buffer = buffer

-- what a page wrote; it is broken off where the page ended by a fault
abbrev pub page_response : Status → Page → (broken : Bool) → State → Answered
page_response status page broken s =
    responds (record { head = head_of status (Some page.settings.content_type) None s; pieces = s.writer.pieces; rest = rest_of broken s.writer.buffer; broken = broken }) s

-- a redirect
abbrev pub redirect_response : (location : List ℕ) → State → Answered
redirect_response location s = responds (record { head = head_of status_is.Found None (Some location) s; pieces = []; rest = []; broken = false }) s

-- a response on a connection that closes behind it, or doesn't
abbrev pub closing : (close : Bool) → Response → Response
closing close response = record response { head = record response.head { close = close } }
