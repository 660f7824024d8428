use Rattle.http_in.specs.HeadEnd.{front_of}
use Rattle.http_in.proofs.Scans.{nothing_looked}
use Rattle.http_in.proofs.rest.Rest.drop_front.Goals as goal

pub invariant_of-self : goal.invariant_of-self
invariant_of-self c = nothing_looked (front_of _)
