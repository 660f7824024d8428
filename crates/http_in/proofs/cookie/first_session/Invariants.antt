use Rattle.std.proofs.Common.{◌≡◌, map, drop}
use Rattle.std.specs.Prelude.{codes}
use Rattle.http_in.specs.Cookie.{first_some, session_in}
use Rattle.http_in.specs.Fields.{values_of}
use Rattle.http_in.proofs.cookie.first_session.Given as goal

-- the first of all is the first of those that are left
abbrev pub invariant-loop-field : goal.invariant-loop-field
invariant-loop-field l =
    first_some (map session_in (values_of (codes "cookie") (drop l.field-index l.fields))) ≡ first_some (map session_in (values_of (codes "cookie") l.fields))
