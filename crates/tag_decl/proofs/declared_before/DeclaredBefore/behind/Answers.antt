use Rattle.std.proofs.Common.{Bool, Bor, List, ℕ, sym, ap, ◌∙◌}
use Rattle.std.specs.Prelude.{◌||◌}
use Rattle.std.specs.Option.{option_map}
use Rattle.page_pieces.specs.Settings.{contains_text}
use Rattle.page_directives.specs.Meet.{Before}
use Rattle.page_directives.specs.Settings.{is_value}
use Rattle.tag_decl.specs.Faults.{declared_names}
use Rattle.tag_decl.proofs.NameLemmas.{declared_more}
use Rattle.tag_decl.proofs.declared_before.DeclaredBefore.behind.Goals as goal

pub invariant_of-result : goal.invariant_of-result
invariant_of-result c name =
    let before = c.self.inside.before.directives in
    let has : List ℕ → Bool = λ other. contains_text other (declared_names before) in
    let own = option_map (λ (name : Bor (List ℕ)). name.now) c.attribute_name.result in
    c.in_ok-insert_name-2.ensures (λ other. has other || is_value other own) (c.in_ok-insert_name.ensures has c.self.invariant) name
    ∙ ((λ i. (has name.now || is_value name.now (c.attribute_name.ensures i)) || is_value name.now (c.variable_of.ensures i))
    ∙ (sym (declared_more name.now before c.args.directive) ∙ ap (λ (all : Before). contains_text name.now (declared_names all.directives)) (sym c.in_ok-push.ensures.before)))
