use Rattle.std.proofs.Common.{false, refl, subst, sym}
use Rattle.page_directives.specs.Meet.{Before}
use Rattle.unit_build.specs.ReadWalk.{IsEntry}
use Rattle.unit_build.proofs.include.meet_entry.Goals as goal

pub returns-in-Entered : goal.returns-in-Entered
returns-in-Entered c =
    subst (λ entry. (before : Before) → IsEntry c.args.found.now c.count_file.new.found before entry c.count_file.result.0 c.count_file.result.1) (sym c.in-Entered.is) c.count_file.ensures

pub returns-in-Unread : goal.returns-in-Unread
returns-in-Unread c =
    subst (λ entry. (before : Before) → IsEntry c.args.found.now c.count_file-in-Unread.new.found before entry c.count_file-in-Unread.result.0 false) (sym c.in-Unread.is)
    (λ before.
    let entered = c.count_file-in-Unread.ensures before in
    record { faults = entered.faults; goes = refl; fault = entered.fault; names = entered.names; site = entered.site; state = entered.state })
