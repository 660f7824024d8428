use Rattle.std.proofs.Common.{◌≡◌, rules, subst, sym}
use Rattle.page_directives.specs.Faults.{in_order}
use Rattle.unit_source.specs.Placed.{root_view}
use Rattle.unit_words.specs.Kinds.{is_function_prefix}
use Rattle.unit_words.specs.Values.{expression_faults}
use Rattle.unit_words.specs.Walk.{leaf_met, nesting_faults}
use Rattle.unit_judges.specs.Made.{here_made}
use Rattle.unit_build.specs.ReadFound.{IsMet, IsRead, state_in}
use Rattle.unit_build.proofs.FoundLemmas.{read_met}
use Rattle.unit_build.proofs.OkLemmas.{on_ok}
use Rattle.unit_build.proofs.leaf.meet_leaf.Goals as goal

pub returns-in_ok-faults-in-Expr-clause-met : goal.returns-in_ok-faults-in-Expr-clause-met
returns-in_ok-faults-in-Expr-clause-met c =
    let old = c.args.found.now in
    let before = c.args.course.now.before in
    let here = here_made c.args.here.now in
    let text = c.in-Expr.text in
    let own : c.in_ok-faults-in-Expr.faults ≡ in_order (expression_faults (is_function_prefix before.directives) text) = search rules in
    let all = c.and.ensures.of (nesting_faults here) (expression_faults (is_function_prefix before.directives) text) c.nesting_faults.ensures own in
    on_ok c.meet-in-Expr.result c.meet-in-Expr.ensures
    (λ is. subst (λ leaf. IsRead old c.meet-in-Expr.new.self (state_in before c.meet-in-Expr.new.self) (leaf_met (root_view c.args.course.now.root) here leaf c.args.place.now (state_in before old)))
    (sym c.in-Expr.is) (read_met before (subst (λ faults. IsMet old c.meet-in-Expr.new.self (Rattle.unit_words.specs.State.events_at c.args.place.now faults)) all is)))
