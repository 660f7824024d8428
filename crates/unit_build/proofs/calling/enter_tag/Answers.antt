use Rattle.std.proofs.Common.{◌≡◌, ◌++◌, ◌∙◌, ◌∷◌, [], Some, ap, map, refl, rules, subst, true}
use Rattle.unit_source.specs.Files.{text_in}
use Rattle.unit_source.specs.Placed.{root_view}
use Rattle.unit_source.specs.Root.{Root, rooted}
use Rattle.unit_words.specs.Calls.{first_call}
use Rattle.unit_words.specs.State.{needed}
use Rattle.unit_build.specs.declared.found.Found.{Found}
use Rattle.unit_build.specs.ReadFound.{IsCalled, IsMet, state_in}
use Rattle.unit_build.proofs.CalledLemmas.{called_first, kept_last, met_at, root_found}
use Rattle.unit_build.proofs.calling.enter_tag.Goals as goal

pub returns : goal.returns
returns c before at_path =
    let old = c.args.found.now in
    let path = c.args.path.now in
    let files = text_in old.site in
    let kept : c.in_ok-tag.tag.value ≡ c.in-Some.root = search rules in
    let root : Root = root_view c.in_ok-tag.tag.value in
    let is : root ≡ rooted files true path c.args.text.now = ap root_view kept ∙ root_found files path c.args.text.now c.in_ok-root.field-0 c.in-Some.root c.in-Some.is at_path c.in_ok-root.ensures.root in
    let one : IsMet old c.need.new.self (needed (path ∷ [])) = met_at old c.root.new.self c.in_ok-root.ensures.site c.in_ok-need.ensures in
    let all : IsMet c.need.new.self c.need_all.new.self (needed root.names) = search rules in
    let clone : c.in_ok-try_clone.field-0.value ≡ c.in_ok-tag.tag.value = search rules in
    let tags : map (λ tag. root_view tag.value) c.push.new.self.items ≡ map (λ tag. root_view tag.value) c.need_all.new.self.tags.items ++ root ∷ [] =
    kept_last (λ tag. root_view tag.value) c.need_all.new.self.tags.items c.push.new.self.items c.in_ok-try_clone.field-0 root c.in_ok-push.ensures.items (ap root_view clone) in
    let kept_all = c.need_all.new.self in
    let new : Found = record { site = kept_all.site; fault = kept_all.fault; names = kept_all.names; tags = c.push.new.self; beans = kept_all.beans; counts = kept_all.counts; readings = kept_all.readings } in
    subst (λ r. IsCalled old new before c.none-2.result (Some root) (first_call path r (state_in before old))) is
    (called_first {new = new} before path root one all refl refl refl refl refl tags c.none-2.ensures)
