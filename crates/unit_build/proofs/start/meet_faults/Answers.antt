use Rattle.std.proofs.Common.{◌≡◌, ◌∙◌, ℕ, Bool, List, ap, rules}
use Rattle.std.specs.Option.{option_map}
use Rattle.page_directives.specs.Faults.{in_order}
use Rattle.page_pieces.specs.Settings.{contains_text}
use Rattle.jstl_tags.specs.Elements.{opened_of}
use Rattle.unit_source.specs.InPlace.{flat}
use Rattle.unit_source.specs.Placed.{in_place, root_view}
use Rattle.unit_words.specs.Calls.{declaration_of}
use Rattle.unit_words.specs.Elements.{element_faults, values_met}
use Rattle.unit_words.specs.Kinds.{is_function_prefix}
use Rattle.unit_words.specs.State.{events_at}
use Rattle.unit_words.specs.Walk.{declaration_in}
use Rattle.unit_judges.specs.Made.{here_made, kind_made}
use Rattle.unit_build.specs.ReadFound.{IsMet, state_in}
use Rattle.unit_build.proofs.CoreLemmas.{library_is}
use Rattle.unit_build.proofs.OkLemmas.{on_ok}
use Rattle.unit_build.proofs.ReadLemmas.{faults_met}
use Rattle.unit_build.proofs.start.meet_faults.Goals as goal

pub returns : goal.returns
returns c =
    let old = c.args.found.now in
    let root = root_view c.args.course.now.root in
    let kind = kind_made c.args.beginning.kind.now in
    let here = here_made c.args.beginning.here in
    let opened = opened_of c.args.beginning.element.now.head in
    let body = flat (in_place c.args.beginning.element.now.body.items) in
    let known = option_map (λ decl. decl.now) c.declared-decl.result in
    let library : List ℕ → Bool = λ prefix. contains_text prefix c.core.result.now in
    let lent : option_map (λ tag. root_view tag.now) c.as_deref.result ≡ option_map (λ tag. root_view tag.value) c.in_ok-tag.tag = search rules in
    let own : c.in_ok-own.own ≡ in_order (element_faults library c.in_tag.result known kind here opened body) = search rules in
    let first : IsMet old c.meet.new.self (events_at opened.place c.and.result) = search rules in
    on_ok c.meet_values.result c.meet_values.ensures
    (λ is before comes e.
    let values : IsMet c.meet.new.self c.meet_values.new.found (values_met (is_function_prefix c.args.course.now.before.directives) known kind opened.tag.attributes) = search rules in
    faults_met root kind here opened body comes c.args.course.now.before known (declaration_in kind (state_in before old)) c.and.result library c.in_tag.result
    (library_is c.core.result.now root.directives c.core.ensures) c.in_tag.ensures (c.declared-decl.ensures ∙ ap declaration_of lent ∙ c.in_ok-tag.ensures before)
    (c.and.ensures.of comes (element_faults library c.in_tag.result known kind here opened body) e own) first values)
