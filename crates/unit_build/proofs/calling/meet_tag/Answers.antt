use Rattle.std.proofs.Common.{◌≡◌, ◌∙◌, ◌∷◌, [], None, ap, cond, false, length, map, rules, subst, sym, true}
use Rattle.std.specs.List.{find}
use Rattle.std.specs.Option.{is_some, option_map}
use Rattle.std.specs.Str.{bytes_eq}
use Rattle.unit_source.specs.Files.{text_in}
use Rattle.unit_source.specs.Placed.{root_view}
use Rattle.unit_words.specs.Calls.{call_counted, called}
use Rattle.unit_words.specs.Counts.{counted}
use Rattle.unit_build.specs.ReadFound.{IsCalled, state_in}
use Rattle.unit_build.proofs.CalledLemmas.{some_mapped}
use Rattle.unit_build.proofs.OkLemmas.{if_ok}
use Rattle.unit_build.proofs.calling.meet_tag.Goals as goal

pub returns-then-is_some : goal.returns-then-is_some
returns-then-is_some c =
    let old = c.args.found.now in
    let path = c.args.path.now in
    let there : option_map (λ tag. root_view tag.now.value) c.tag_in.result ≡ find (λ root. bytes_eq root.path path) (map (λ tag. root_view tag.value) old.tags.items) = search rules in
    let known : is_some (find (λ root. bytes_eq root.path path) (map (λ tag. root_view tag.value) old.tags.items)) ≡ true =
    ap is_some (sym there) ∙ some_mapped (λ tag. root_view tag.now.value) c.tag_in.result ∙ sym c.is_some.ensures ∙ c.if-is_some.true in
    if_ok c.refuse.result c.refuse.ensures
    (λ answer is before at_path. subst (λ b. IsCalled old c.refuse.new.found before answer.0 (option_map (λ tag. root_view tag.value) answer.1)
    (cond b (called [] (path ∷ []) (state_in before old) None) (call_counted (text_in old.site) path c.args.text.now (counted (length c.args.text.now) old.counts) (state_in before old))))
    (sym known) (is before [] c.none.ensures))

pub returns : goal.returns
returns c =
    let old = c.args.found.now in
    let path = c.args.path.now in
    let there : option_map (λ tag. root_view tag.now.value) c.tag_in.result ≡ find (λ root. bytes_eq root.path path) (map (λ tag. root_view tag.value) old.tags.items) = search rules in
    let known : is_some (find (λ root. bytes_eq root.path path) (map (λ tag. root_view tag.value) old.tags.items)) ≡ false =
    ap is_some (sym there) ∙ some_mapped (λ tag. root_view tag.now.value) c.tag_in.result ∙ sym c.is_some.ensures ∙ c.if-is_some.false in
    if_ok c.count_tag.result c.count_tag.ensures
    (λ answer is before at_path. subst (λ b. IsCalled old c.count_tag.new.found before answer.0 (option_map (λ tag. root_view tag.value) answer.1)
    (cond b (called [] (path ∷ []) (state_in before old) None) (call_counted (text_in old.site) path c.args.text.now (counted (length c.args.text.now) old.counts) (state_in before old))))
    (sym known) (is before at_path))
