use Rattle.std.proofs.Common.{[], ◌∷◌, ◌++◌, refl, rules}
use Rattle.connection_list.proofs.Lists.{begins_next, first_is, is_whole, none_is, unlisted_rest}
use Rattle.connection_list.proofs.list.is_list.Goals as goal

pub connections-init : goal.connections-init
connections-init c = ([], refl)

pub connections-preserved : goal.connections-preserved
connections-preserved c =
    let first = first_is _ _ _ _ c.first_connection.ensures.split c.in-Some.is in
    (c.connections.invariant.0 ++ _ ∷ [], begins_next c.args.input.now c.connections.invariant.0 c.connections.rest.now _ _ c.connections.invariant.1 first)

pub returns-in_default-clause-unlisted : goal.returns-in_default-clause-unlisted
returns-in_default-clause-unlisted c = λ no. unlisted_rest c.args.input.now c.connections.invariant.0 c.connections.rest.now c.connections.invariant.1 (search rules) (none_is _ _ _ c.first_connection.ensures.split (search rules))

pub returns-clause-listed : goal.returns-clause-listed
returns-clause-listed c = λ yes. (c.connections.invariant.0, is_whole c.args.input.now c.connections.invariant.0 c.connections.rest.now c.connections.invariant.1 (search rules))
