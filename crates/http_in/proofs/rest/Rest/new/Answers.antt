use Rattle.http_in.specs.HeadEnd.{front_of}
use Rattle.http_in.proofs.Scans.{nothing_looked}
use Rattle.http_in.proofs.rest.Rest.new.Goals as goal

pub invariant_of-result : goal.invariant_of-result
invariant_of-result c = nothing_looked (front_of _)
