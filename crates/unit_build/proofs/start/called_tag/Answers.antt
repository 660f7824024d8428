use Rattle.std.proofs.Common.{◌≡◌, ◌∙◌, Some, ap, map, rules, sym}
use Rattle.std.specs.List.{find}
use Rattle.std.specs.Option.{option_map}
use Rattle.std.specs.Str.{bytes_eq}
use Rattle.unit_source.specs.Placed.{root_view}
use Rattle.unit_words.specs.Calls.{declaration_of}
use Rattle.unit_words.specs.Walk.{declaration_in}
use Rattle.unit_judges.specs.Made.{kind_made}
use Rattle.unit_build.specs.ReadFound.{state_in}
use Rattle.unit_build.proofs.start.called_tag.Goals as goal

pub returns-in_ok-try_clone-in-Some : goal.returns-in_ok-try_clone-in-Some
returns-in_ok-try_clone-in-Some c before =
    let found = c.args.found.now in
    let path = c.in-Call.path in
    let there : option_map (λ tag. root_view tag.now.value) c.tag_in.result ≡ find (λ root. bytes_eq root.path path) (map (λ tag. root_view tag.value) found.tags.items) = search rules in
    let clone : c.in_ok-try_clone-in-Some.field-0.value ≡ c.in-Some.tag.now.value = search rules in
    ap (λ value. declaration_of (Some (root_view value))) clone
    ∙ ap declaration_of (ap (option_map (λ tag. root_view tag.now.value)) (sym c.in-Some.is) ∙ there)
    ∙ sym (ap (λ kind. declaration_in (kind_made kind) (state_in before found)) c.in-Call.is)
