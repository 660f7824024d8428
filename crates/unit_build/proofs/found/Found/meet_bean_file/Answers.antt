use Rattle.std.proofs.Common.{◌≡◌, sym, subst, IfOk, Some, rules}
use Rattle.page_directives.specs.Meet.{Before}
use Rattle.unit_source.specs.Files.{text_in}
use Rattle.unit_words.specs.Beans.{bean_text}
use Rattle.unit_build.specs.ReadFound.{state_in, IsBeanMet}
use Rattle.unit_build.proofs.BeanLemmas.{bean_after}
use Rattle.unit_build.proofs.OkLemmas.{if_ok}
use Rattle.unit_build.proofs.found.Found.meet_bean_file.Goals as goal

pub returns-in-Some : goal.returns-in-Some
returns-in-Some c =
    let old = c.args.self.now in
    let path = c.args.path.now in
    let text : text_in old.site path ≡ Some c.in-Some.text = search rules in
    subst (λ o. IfOk c.meet_bean_text.result (λ faults. (before : Before)
    → IsBeanMet old c.meet_bean_text.new.self before faults (bean_text c.args.class.now path o (state_in before old)))) (sym text)
    (if_ok c.meet_bean_text.result c.meet_bean_text.ensures (λ faults is before. bean_after before c.args.class.now path c.in-Some.text c.in_ok-need.ensures (is before path)))
