use Rattle.std.proofs.Common.{◌∙◌, sym, ap, subst, Ok, Err, option_map}
use Rattle.pg_text.specs.Order.{IsPlace}
use Rattle.pg_text.proofs.PlaceLemmas.{item_found, item_absent}
use Rattle.dep_graph.specs.declared.entries.Named.{Named}
use Rattle.dep_graph.specs.Deps.{name_of, some_paths, users_of}
use Rattle.dep_graph.proofs.deps.Deps.users.Goals as goal

pub returns-in-Ok : goal.returns-in-Ok
returns-in-Ok c =
    let name = c.args.name.now in
    let place = subst (λ index. IsPlace name_of name index (Ok c.in-Ok.at)) c.deref.ensures.value c.in-Ok.ensures in
    ap (option_map (λ (named : Named). named.users)) (sym (item_found name_of name c.self.inside.index.items c.in-Ok.at c.index.result.now place c.index.ensures))
    ∙ c.self.invariant.2 name ∙ ap (λ dependents. some_paths (users_of name dependents)) c.self.view_is

pub returns-in-Err : goal.returns-in-Err
returns-in-Err c =
    let name = c.args.name.now in
    let place = subst (λ index. IsPlace name_of name index (Err c.in-Err.field-0)) c.deref.ensures.value c.in-Err.ensures in
    ap (option_map (λ (named : Named). named.users)) (sym (item_absent name_of name c.self.inside.index.items c.in-Err.field-0 place))
    ∙ c.self.invariant.2 name ∙ ap (λ dependents. some_paths (users_of name dependents)) c.self.view_is
