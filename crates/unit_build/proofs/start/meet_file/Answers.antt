use Rattle.std.proofs.Common.{◌≡◌, ◌∙◌, ap, rules, subst, sym}
use Rattle.std.specs.Option.{option_map}
use Rattle.jstl_tags.specs.Elements.{opened_of}
use Rattle.unit_source.specs.Files.{text_in}
use Rattle.unit_source.specs.Placed.{root_view}
use Rattle.unit_words.specs.Walk.{file_met}
use Rattle.unit_nodes.specs.declared.jsp_name.JspName.TheVariants.{UseBean}
use Rattle.unit_judges.specs.declared.kind.Kind.TheVariants.{Standard}
use Rattle.unit_judges.specs.Made.{kind_made}
use Rattle.unit_build.specs.ReadFound.{IsCalled, state_in}
use Rattle.unit_build.proofs.OkLemmas.{if_ok}
use Rattle.unit_build.proofs.start.meet_file.Goals as goal

pub returns-in-Call : goal.returns-in-Call
returns-in-Call c =
    let old = c.args.found.now in
    if_ok c.meet_call.result c.meet_call.ensures
    (λ answer is before. subst (λ kind. IsCalled old c.meet_call.new.found before answer.0 (option_map (λ tag. root_view tag.value) answer.1)
    (file_met (text_in old.site) (kind_made kind) (opened_of c.args.head.now).tag (state_in before old))) (sym c.in-Call.is) (is before))

pub returns-in-Standard-UseBean-default : goal.returns-in-Standard-UseBean-default
returns-in-Standard-UseBean-default c =
    let old = c.args.found.now in
    let row = c.in-Standard-UseBean-default.field-1 in
    let name : c.in-Standard-UseBean-default.field-0 ≡ UseBean = search rules in
    let bean = c.in-Standard-UseBean-default.is ∙ ap (λ name. Standard name row) name in
    if_ok c.meet_bean.result c.meet_bean.ensures
    (λ answer is before. subst (λ kind. IsCalled old c.meet_bean.new.found before answer.0 (option_map (λ tag. root_view tag.value) answer.1)
    (file_met (text_in old.site) (kind_made kind) (opened_of c.args.head.now).tag (state_in before old))) (sym bean) (is before))
