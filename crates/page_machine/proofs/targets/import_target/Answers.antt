use Rattle.std.proofs.Common.{◌≡◌, ◌∙◌, Err, ap, codes, false, is_some, map, refl, subst, sym, true}
use Rattle.jstl_functions.proofs.Places.{place_found}
use Rattle.jstl_functions.specs.Texts.{contains_part}
use Rattle.page_machine.proofs.PageCalls.{first_is}
use Rattle.page_machine.proofs.targets.import_target.Goals as goal
use Rattle.page_machine.specs.Pages.{ImportSo}
use Rattle.page_table.specs.Operations.{text_at}
use Rattle.page_table.specs.Seat.{page_run_of}
use Rattle.pg_text.specs.declared.failure.Failure.TheVariants as failure
use Rattle.pg_value.specs.Value.{datum_of}
use Rattle.pg_value.specs.declared.fault.RunFault.TheVariants as fault
use Rattle.run_world.specs.Seats.{seat_of}

pub returns-then-is_some : goal.returns-then-is_some
returns-then-is_some c =
    let ds = map datum_of c.args.values.now in
    let url = c.text_of.ensures ∙ first_is c.args.values.now c.index-values-0.result c.requires c.index-values-0.is in
    let has : contains_part (codes "://") (text_at 0 ds) ≡ true = ap (contains_part (codes "://")) (sym url) ∙ ap is_some (sym (place_found (codes "://") c.text_of.result.now c.find.result c.find.ensures.cases)) ∙ sym c.is_some.ensures ∙ c.if-is_some.true in
    subst (λ b. ImportSo b (page_run_of (seat_of c.args.seat.now)) ds (Err (failure.Fault fault.BadUrl))) (sym has) refl

pub returns : goal.returns
returns c =
    let ds = map datum_of c.args.values.now in
    let url = c.text_of.ensures ∙ first_is c.args.values.now c.index-values-0.result c.requires c.index-values-0.is in
    let has : contains_part (codes "://") (text_at 0 ds) ≡ false = ap (contains_part (codes "://")) (sym url) ∙ ap is_some (sym (place_found (codes "://") c.text_of.result.now c.find.result c.find.ensures.cases)) ∙ sym c.is_some.ensures ∙ c.if-is_some.false in
    subst (λ b. ImportSo b (page_run_of (seat_of c.args.seat.now)) ds c.find_target.result) (sym has) c.find_target.ensures
