use Rattle.std.proofs.Common.{◌∙◌, ap, sym}
use Rattle.std.specs.Prelude.{option_map}
use Rattle.page_machine.proofs.calls.given.Goals as goal
use Rattle.page_table.specs.Seat.{in_tag}
use Rattle.run_parts.specs.Given.{given_by}
use Rattle.run_world.specs.Seats.{call_of}

pub returns-in-None : goal.returns-in-None
returns-in-None c = λ caller. c.body_given.ensures ∙ ap (λ name. given_by (option_map (λ n. n.now) name) (in_tag (call_of c.args.call.now) caller)) (sym c.in-None.is)

pub returns-in-Some : goal.returns-in-Some
returns-in-Some c = λ caller. c.fragment_given.ensures ∙ ap (λ name. given_by (option_map (λ n. n.now) name) (in_tag (call_of c.args.call.now) caller)) (sym c.in-Some.is)
