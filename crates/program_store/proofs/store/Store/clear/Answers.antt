use Rattle.std.proofs.Common.{◌∙◌, not, sym, ap, subst}
use Rattle.std.proofs.lemmas.List.Kept.{AllPairs-filter}
use Rattle.pg_text.specs.Names.{has_name}
use Rattle.pg_text.specs.Order.{AreRising}
use Rattle.pg_text.proofs.ItemLemmas.{IsBelow}
use Rattle.dep_graph.specs.declared.entries.Dependent.{Dependent}
use Rattle.dep_graph.specs.Deps.{without_paths}
use Rattle.program_store.specs.Store.{dependent_of, kept_in, needing, shelf_path}
use Rattle.program_store.proofs.KeptLemmas.{cleared, left_kept, map_filter}
use Rattle.program_store.proofs.store.Store.clear.Goals as goal

pub invariant_of-self : goal.invariant_of-self
invariant_of-self g c =
    let paths = c.args.paths.now in
    let shelves = c.args.self.now.shelves.items in
    let needed = g.P.Compiled.needed in
    record {
      in_order = subst (AreRising shelf_path) (sym c.clear.ensures) (AllPairs-filter (IsBelow shelf_path) _ shelves c.args.self.now.in_order);
      in_step = c.remove_all.ensures ∙ ap (without_paths paths) c.args.self.now.in_step
          ∙ sym (map_filter (dependent_of needed) (λ (dependent : Dependent). not (has_name dependent.path paths)) shelves) ∙ ap (needing needed) (sym c.clear.ensures);
    }

pub returns-clause-left : goal.returns-clause-left
returns-clause-left g c = ap kept_in c.clear.ensures ∙ left_kept c.args.paths.now c.args.self.now.shelves.items

pub returns-clause-clean : goal.returns-clause-clean
returns-clause-clean g c = λ names is.
    ap kept_in c.clear.ensures ∙ left_kept c.args.paths.now c.args.self.now.shelves.items
    ∙ cleared g.P.Compiled.needed names c.args.paths.now c.args.self.now.shelves.items c.args.self.now.in_order is
