use Rattle.std.proofs.Common.{◌≡◌, ◌∷◌, [], None, Some, rules, subst, sym}
use Rattle.std.specs.Option.{option_map}
use Rattle.pg_text.specs.declared.translation_fault.TranslationFault.TheVariants as fault
use Rattle.unit_source.specs.Files.{text_in}
use Rattle.unit_source.specs.Placed.{root_view}
use Rattle.unit_words.specs.Calls.{call_text}
use Rattle.unit_build.specs.ReadFound.{IsCalled, state_in}
use Rattle.unit_build.proofs.OkLemmas.{if_ok}
use Rattle.unit_build.proofs.calling.meet_call.Goals as goal

pub returns-in-Some : goal.returns-in-Some
returns-in-Some c =
    let old = c.args.found.now in
    let path = c.args.path.now in
    let text : text_in old.site path ≡ Some c.in-Some.text = search rules in
    if_ok c.meet_tag.result c.meet_tag.ensures
    (λ answer is before. subst (λ o. IsCalled old c.meet_tag.new.found before answer.0 (option_map (λ tag. root_view tag.value) answer.1) (call_text (text_in old.site) path o (state_in before old)))
    (sym text) (is before text))

pub returns-in-None : goal.returns-in-None
returns-in-None c =
    let old = c.args.found.now in
    let path = c.args.path.now in
    let none : text_in old.site path ≡ None = search rules in
    if_ok c.refuse.result c.refuse.ensures
    (λ answer is before. subst (λ o. IsCalled old c.refuse.new.found before answer.0 (option_map (λ tag. root_view tag.value) answer.1) (call_text (text_in old.site) path o (state_in before old)))
    (sym none) (is before (fault.NoTag ∷ []) c.one.ensures))
