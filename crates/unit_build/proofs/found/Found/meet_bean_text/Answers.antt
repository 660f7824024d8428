use Rattle.std.proofs.Common.{◌≡◌, ℕ, List, map, sym, subst, IfOk, None, rules}
use Rattle.page_directives.specs.Directive.{row_of}
use Rattle.page_directives.specs.Meet.{Before}
use Rattle.unit_words.specs.Beans.{bean_again}
use Rattle.unit_judges.specs.Made.{class_made}
use Rattle.unit_build.specs.ReadFound.{state_in, IsBeanRead}
use Rattle.unit_build.proofs.found.Found.meet_bean_text.Goals as goal

pub returns-in-None : goal.returns-in-None
returns-in-None c =
    let none : row_of c.args.class.now (map class_made c.args.self.now.beans.items) ≡ None = search rules in
    subst (λ o. IfOk c.read_bean.result (λ faults. (before : Before) → (path : List ℕ)
    → IsBeanRead c.args.self.now c.read_bean.new.self before faults (bean_again c.args.class.now path c.args.text.now o (state_in before c.args.self.now)))) (sym none) c.read_bean.ensures
