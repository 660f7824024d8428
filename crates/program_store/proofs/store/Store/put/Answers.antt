use Rattle.std.proofs.Common.{◌≡◌, sym, ap, subst, ◌∙◌}
use Rattle.std.specs.Arc.{arc_value}
use Rattle.pg_text.specs.Order.{AreRising, with_item}
use Rattle.pg_text.proofs.ItemLemmas.{order_with}
use Rattle.dep_graph.specs.Deps.{path_of}
use Rattle.program_store.specs.declared.shelf.Shelf.{Shelf}
use Rattle.program_store.specs.Store.{dependent_of, kept_in, kept_of, kept_path, names_in, needing, shelf_path}
use Rattle.program_store.proofs.KeptLemmas.{map_with}
use Rattle.program_store.proofs.store.Store.put.Goals as goal

pub invariant_of-self-2 : goal.invariant_of-self-2
invariant_of-self-2 g c =
    let shelves = c.args.self.now.shelves.items in
    let needed = g.P.Compiled.needed in
    let shelf : Shelf g.row.P.Denot = record { path = c.args.path; made = c.args.made } in
    let put_is : c.put.new.shelves.items ≡ with_item shelf_path shelf shelves = c.put.ensures ∙ ap (with_item shelf_path shelf) c.in_ok-try_reserve.ensures.items in
    let names : c.in_ok-names.names ≡ names_in (needed (arc_value c.args.made)) = c.in_ok-names.ensures ∙ ap names_in (c.as_slice.ensures ∙ c.stamps.ensures ∙ ap needed c.deref.ensures) in
    record {
      in_order = subst (AreRising shelf_path) (sym put_is) (order_with shelf_path shelf shelves c.args.self.now.in_order);
      in_step = c.in_ok-add.ensures.ok ∙ (λ i. with_item path_of (record { path = c.args.path; names = names i }) (c.args.self.now.in_step i))
          ∙ sym (map_with (dependent_of needed) path_of shelf shelves) ∙ ap (needing needed) (sym put_is);
    }

pub returns-clause-ok : goal.returns-clause-ok
returns-clause-ok g c =
    let shelf : Shelf g.row.P.Denot = record { path = c.args.path; made = c.args.made } in
    ap kept_in (c.put.ensures ∙ ap (with_item shelf_path shelf) c.in_ok-try_reserve.ensures.items) ∙ map_with kept_of kept_path shelf c.args.self.now.shelves.items
