-- Loops: their beginning, and their next round or their end.
use Rattle.std.specs.Prelude.{ℕ, List, [], ◌∷◌, codes, Some, None, Result}
use Rattle.jstl_functions.specs.Functions.{and_then}
use Rattle.jstl_functions.specs.Texts.{tokens}
use Rattle.page_code.specs.declared.operands.LoopKind.{LoopKind}
use Rattle.page_code.specs.declared.operands.Over.{Over}
use Rattle.page_code.specs.declared.operands.Over.TheVariants as over
use Rattle.pg_text.specs.declared.place.Place.{Place}
use Rattle.pg_value.specs.declared.fault.RunFault.{RunFault}
use Rattle.page_meaning.specs.Attributes.{Values, value_at, text_at}
use Rattle.page_meaning.specs.Loops.{round_begun, without_named}
use Rattle.page_meaning.specs.Rounds.{Round, rounds_of, given_items, token_items}
use Rattle.page_meaning.specs.State.{State}
use Rattle.page_meaning.specs.Went.{result_of}
use Rattle.page_table.specs.Landing.{Config, Running, then_at}
use Rattle.page_table.specs.Move.{Move, On, Stuck}
use Rattle.page_table.specs.Open.{Loop, Open}

-- the rounds of a loop by the values of its attributes
abbrev pub loop_rounds : Over → Values → Result (List Round) RunFault
loop_rounds over.Numbers vs = rounds_of None vs
loop_rounds over.Items vs = and_then (given_items (value_at (codes "items") vs)) (λ items. rounds_of items vs)
loop_rounds over.Tokens vs = rounds_of (Some (token_items (tokens (text_at (codes "delims") vs) (text_at (codes "items") vs)))) vs

-- with one more loop open
abbrev pub with_loop : Loop → Open → Open
with_loop loop o = record o { loops = loop ∷ o.loops }

-- a loop begins with the values that it takes
abbrev pub loop_opened : Place → LoopKind → Values → (to : ℕ) → State → Open → Config
loop_opened place kind vs to s o =
    then_at o (result_of place (loop_rounds kind.over vs) s)
    (λ rounds s1. Running to s1 (with_loop (record { variable = kind.variable; status = kind.status; values = vs; rounds = rounds }) o))

-- the next round of a loop counts its visit and goes back; behind the last one the variables go, and the loop with them
abbrev pub next_round : Place → Loop → List Loop → List Round → (again behind : ℕ) → State → Open → Config
next_round place loop outer [] again behind s o = Running behind (without_named loop.status (without_named loop.variable s)) (record o { loops = outer })
next_round place loop outer (r ∷ rest) again behind s o =
    then_at o (round_begun place loop.variable loop.status loop.values r s) (λ u s1. Running again s1 (record o { loops = record loop { rounds = rest } ∷ outer }))

-- the next round of the innermost loop
abbrev pub loop_next : Place → List Loop → (again behind : ℕ) → State → Open → Move
loop_next place [] again behind s o = Stuck
loop_next place (loop ∷ outer) again behind s o = On (next_round place loop outer loop.rounds again behind s o)
