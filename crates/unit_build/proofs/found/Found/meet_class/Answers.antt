use Rattle.std.proofs.Common.{◌≡◌, subst, IfOk, Some, rules}
use Rattle.page_directives.specs.Meet.{Before}
use Rattle.unit_source.specs.Files.{text_in}
use Rattle.unit_words.specs.Beans.{bean_at, bean_path}
use Rattle.unit_build.specs.ReadFound.{state_in, IsBeanMet}
use Rattle.unit_build.proofs.found.Found.meet_class.Goals as goal

pub returns-in-Some : goal.returns-in-Some
returns-in-Some c =
    let old = c.args.self.now in
    let path : Some c.in-Some.path ≡ bean_path c.args.class.now = search rules in
    subst (λ o. IfOk c.meet_bean_file.result (λ faults. (before : Before)
    → IsBeanMet old c.meet_bean_file.new.self before faults (bean_at (text_in old.site) c.args.class.now o (state_in before old)))) path c.meet_bean_file.ensures
