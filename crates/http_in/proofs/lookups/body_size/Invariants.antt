use Rattle.std.proofs.Common.{◌≡◌, drop}
use Rattle.std.specs.Prelude.{codes}
use Rattle.http_in.specs.Fields.{values_of}
use Rattle.http_in.specs.Length.{size_of}
use Rattle.http_in.proofs.Sizes.{size_from}
use Rattle.http_in.proofs.lookups.body_size.Given as goal

-- what was found so far and the fields that are left give the size
abbrev pub invariant-loop-field : goal.invariant-loop-field
invariant-loop-field l =
    size_from l.found (values_of (codes "content-length") (drop l.field-index l.fields)) ≡ size_of (values_of (codes "content-length") l.fields)
