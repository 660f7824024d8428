use Rattle.std.proofs.Common.{◌≡◌, ◌++◌, drop}
use Rattle.std.specs.Prelude.{codes, flat_map}
use Rattle.http_in.specs.Fields.{values_of}
use Rattle.run_values.proofs.cookies.cookies.Given as goal
use Rattle.page_meaning.specs.Request.{cookies, cookies_in}

abbrev pub invariant-loop-field : goal.invariant-loop-field
invariant-loop-field l = l.found ++ flat_map cookies_in (values_of (codes "cookie") (drop l.field-index l.field-items)) ≡ cookies l.request
