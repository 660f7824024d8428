use Rattle.http_in.proofs.Near.{front_looked}
use Rattle.http_in.proofs.rest.Rest.fill.Goals as goal

pub invariant_of-self : goal.invariant_of-self
invariant_of-self g c =
    front_looked c.self.inside.scan c.self.inside.bytes _ c.fill.new.self c.fill.ensures.bytes.grown c.self.invariant

pub invariant_of-self-2 : goal.invariant_of-self-2
invariant_of-self-2 g c =
    front_looked c.self.inside.scan c.self.inside.bytes _ c.fill.new.self c.fill.ensures.bytes.grown c.self.invariant
