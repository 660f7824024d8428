-- The head of the response that a writer has begun.
use Rattle.std.specs.Prelude.{◌≡◌, ℕ, Bool, false, List, Option, None}
use Rattle.http_out.specs.declared.head.Head.{Head}
use Rattle.http_out.specs.declared.status.Status.{Status}
use Rattle.out_buffer.specs.Held.{Held}
use Rattle.page_meaning.specs.Response.{new_id}
use Rattle.run_world.specs.declared.around.Around.{Around}

-- the head of a response with the id of a new session, on a connection that closes behind it, or doesn't
abbrev pub head_for : Status → (content_type : Option (List ℕ)) → (close : Bool) → Around → Head
head_for status content_type close around = record { status = status; content_type = content_type; set_cookie = new_id around.fresh around.id; location = None; allow = false; close = close }

-- what the writer holds is a response to this request: its head names the session that the request made, and its body is shown or isn't
pub record IsHeaded (close shown : Bool) (around : Around) (held : Held) : Type 0 where
  pub status : Status
  pub content_type : Option (List ℕ)
  pub head : held.head ≡ head_for status content_type close around
  pub shown_is : held.shown ≡ shown
