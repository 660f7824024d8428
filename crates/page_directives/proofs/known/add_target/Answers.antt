use Rattle.std.proofs.Common.{sym, ap, ◌∙◌, Some}
use Rattle.std.specs.Option.{option_map}
use Rattle.page_directives.proofs.KnownLemmas.{targets_more, targets_no_prefix, targets_no_target, targets_still, target_now, text_now}
use Rattle.page_directives.proofs.known.add_target.Goals as goal

pub returns-in_default : goal.returns-in_default
returns-in_default c before has = targets_no_prefix c.args.known.now before c.args.directive.now (sym c.prefix.ensures ∙ ap (option_map text_now) c.in_default.is) has

pub returns-in_default-target : goal.returns-in_default-target
returns-in_default-target c before has = targets_no_target c.args.known.now before c.args.directive.now (sym c.target.ensures ∙ ap (option_map target_now) c.in_default-target.is) has

pub returns-in_ok-insert : goal.returns-in_ok-insert
returns-in_ok-insert c before has =
    targets_more c.args.known.now c.insert.new.self c.in-Some.prefix c.in_ok-copy.field-0 before c.args.directive.now (sym c.prefix.ensures ∙ ap (option_map text_now) c.in-Some.is)
    (sym c.target.ensures ∙ (ap (option_map target_now) c.in-Some-target.is ∙ ap (λ target. Some target) (sym c.in_ok-copy.ensures))) (sym c.contains_key.ensures ∙ c.if-not-contains_key.true)
    c.in_ok-insert.ensures.updates has

pub returns-else-not-contains_key : goal.returns-else-not-contains_key
returns-else-not-contains_key c before has =
    targets_still c.args.known.now c.in-Some.prefix c.in-Some-target.target.now before c.args.directive.now (sym c.prefix.ensures ∙ ap (option_map text_now) c.in-Some.is)
    (sym c.target.ensures ∙ ap (option_map target_now) c.in-Some-target.is) (sym c.contains_key.ensures ∙ c.if-not-contains_key.false) has
