use Rattle.std.proofs.Common.{◌≡◌, subst, IfOk, Some, rules}
use Rattle.std.specs.Option.{option_map}
use Rattle.page_directives.specs.Meet.{Before}
use Rattle.unit_source.specs.Files.{text_in}
use Rattle.unit_words.specs.Beans.{bean_met}
use Rattle.unit_build.specs.ReadFound.{state_in, IsBeanMet}
use Rattle.unit_build.proofs.found.Found.meet_bean.Goals as goal

pub returns-in-Some : goal.returns-in-Some
returns-in-Some c =
    let old = c.args.self.now in
    let class : Some c.in-Some.class.now ≡ option_map (λ class. class.now) c.args.class = search rules in
    subst (λ o. IfOk c.meet_class.result (λ faults. (before : Before)
    → IsBeanMet old c.meet_class.new.self before faults (bean_met (text_in old.site) o (state_in before old)))) class c.meet_class.ensures
