-- The exit of an operation: what it took is gone, and what it made lands on the stack.
use Rattle.std.proofs.Common.{◌≡◌, ◌≤◌, ◌+◌, ℕ, List, ◌++◌, length, Result, Ok, Err, refl, sym, ap, ◌∙◌}
use Rattle.std.specs.Prelude.{Option, Some, None, take, drop, reverse}
use Rattle.page_code.specs.Ops.{takes}
use Rattle.page_code.specs.declared.instr.Instr.TheVariants as instr
use Rattle.page_code.specs.declared.op.Op.{Op}
use Rattle.page_meaning.specs.State.{State}
use Rattle.page_meaning.specs.Went.{Did, Went}
use Rattle.page_table.specs.Act.{act, with_stack}
use Rattle.page_table.specs.Landing.{land}
use Rattle.page_table.specs.Move.{Move, On}
use Rattle.page_table.specs.Open.{Open}
use Rattle.page_table.specs.Operations.{leaving_none, leaving_one, operation}
use Rattle.page_table.specs.Program.{Serving}
use Rattle.page_table.specs.Seat.{Seat}
use Rattle.pg_text.specs.declared.failure.Failure.{Failure}
use Rattle.pg_text.specs.declared.failure.Failure.TheVariants as failure
use Rattle.pg_text.specs.declared.place.Place.{Place}
use Rattle.pg_value.specs.Datum.{Datum}
use Rattle.pg_value.specs.Value.{datum_of}
use Rattle.pg_value.specs.declared.fault.RunFault.{RunFault}
use Rattle.pg_value.specs.declared.value.Value.{Value}
use Rattle.run_moves.proofs.Acts.{acted_as}
use Rattle.run_moves.proofs.Landings.{Lands, landed, popped_all_is}
use Rattle.run_moves.specs.Acted.{Acted}
use Rattle.run_moves.specs.Landing.{landing}
use Rattle.run_moves.specs.declared.flow.End.TheVariants as ends
use Rattle.run_moves.specs.declared.flow.Flow.{Flow}
use Rattle.run_moves.specs.declared.flow.Flow.TheVariants as flows
use Rattle.run_parts.proofs.Operates.{op_none, op_one}
use Rattle.run_parts.specs.Answers.{left_by, none_of, one_of}
use Rattle.run_world.specs.Origin.{Origin}
use Rattle.run_world.specs.Part.{Doing}
use Rattle.site_words.specs.Law.{Answer}

module _ (serving : Serving) (seat : Seat) (place : Place) (pc : ℕ) (o : Open) (op : Op) (count : ℕ) (ds stack : List Datum) (enough : takes op ≤ length o.stack) (all : count ≡ takes op)
    (taken : ds ≡ reverse (take count o.stack)) (rest : stack ≡ drop count o.stack) where
  abbrev part : Place → State → Went (List Datum)
  part place s = operation serving seat place op ds s

  abbrev lands_at : State → List Datum → List Datum → Move
  lands_at s xs below = On (land (pc + 1) (λ made. made ++ below) (with_stack below o) (operation serving seat place op xs s))

  op_is : (s : State) → act serving seat place pc s o (instr.Op op) ≡ Lands pc place (with_stack stack o) part s
  op_is s =
      popped_all_is (takes op) o (λ xs p. On (land (pc + 1) (λ made. made ++ p.stack) p (operation serving seat place op xs s))) enough
      ∙ ap (λ n. lands_at s (reverse (take n o.stack)) (drop n o.stack)) (sym all)
      ∙ ap (λ xs. lands_at s xs (drop count o.stack)) (sym taken)
      ∙ ap (lands_at s ds) (sym rest)

  module _ {W : Type 0} {reached : W → Origin → W → State → Type 0} {replies : W → List Answer} where
    pub op_landed : (old mid new : W) (made : Result (Option Value) (Failure RunFault)) (o2 : Open) (flow : Flow) → Doing reached replies left_by part old mid made
        → Acted reached replies (landing pc place (with_stack stack o) made) mid new o2 flow → (made ≡ Err failure.NoMemory → (flow ≡ flows.Over ends.NoMemory) × (new ≡ mid))
        → Acted reached replies (λ s. act serving seat place pc s o (instr.Op op)) old new o2 flow
    op_landed old mid new made o2 flow does acted short =
        acted_as (λ s. act serving seat place pc s o (instr.Op op)) (Lands pc place (with_stack stack o) part) old new o2 flow op_is
        (landed pc place (with_stack stack o) old mid new made o2 flow does acted short)

pub ok_err : {A : Type 0} (a : A) (f : Failure RunFault) → Ok a ≡ Err f → ⊥
ok_err a f h = cc

-- the failure of what failed
abbrev pub failure_of : {A : Type 0} → Result A (Failure RunFault) → Failure RunFault
failure_of (Ok a) = failure.NoMemory
failure_of (Err f) = f

-- where memory ran out for what an operation leaves, it ran out for what the operation did
none_short : (done : Result Unit (Failure RunFault)) → none_of done ≡ Err failure.NoMemory → done ≡ Err failure.NoMemory
none_short (Ok u) e = absurd (ok_err None failure.NoMemory e)
none_short (Err f) e = ap Err (ap failure_of e)

one_short : (made : Result Value (Failure RunFault)) → one_of made ≡ Err failure.NoMemory → made ≡ Err failure.NoMemory
one_short (Ok v) e = absurd (ok_err (Some v) failure.NoMemory e)
one_short (Err f) e = ap Err (ap failure_of e)

module _ {W : Type 0} {reached : W → Origin → W → State → Type 0} {replies : W → List Answer} (serving : Serving) (seat : Seat) (place : Place) (pc : ℕ) (o : Open) (op this : Op) (count : ℕ) (ds stack : List Datum)
    (enough : takes op ≤ length o.stack) (all : count ≡ takes op) (taken : ds ≡ reverse (take count o.stack)) (rest : stack ≡ drop count o.stack) (is : op ≡ this) where
  -- an operation that leaves no value
  pub done_landed : {part : Place → State → Did} (old mid new : W) (done : Result Unit (Failure RunFault)) (o2 : Open) (flow : Flow)
      → ((at : Place) (s : State) → operation serving seat at this ds s ≡ leaving_none (part at s)) → Doing reached replies (λ u. u) part old mid done
      → Acted reached replies (landing pc place (with_stack stack o) (none_of done)) mid new o2 flow → (done ≡ Err failure.NoMemory → (flow ≡ flows.Over ends.NoMemory) × (new ≡ mid))
      → Acted reached replies (λ s. act serving seat place pc s o (instr.Op op)) old new o2 flow
  done_landed old mid new done o2 flow same does acted short =
      op_landed serving seat place pc o op count ds stack enough all taken rest old mid new (none_of done) o2 flow (op_none serving seat op this ds old mid (none_of done) is done refl same does) acted
      (λ e. short (none_short done e))

  -- one that leaves its value
  pub value_landed : {part : Place → State → Went Datum} (old mid new : W) (made : Result Value (Failure RunFault)) (o2 : Open) (flow : Flow)
      → ((at : Place) (s : State) → operation serving seat at this ds s ≡ leaving_one (part at s)) → Doing reached replies datum_of part old mid made
      → Acted reached replies (landing pc place (with_stack stack o) (one_of made)) mid new o2 flow → (made ≡ Err failure.NoMemory → (flow ≡ flows.Over ends.NoMemory) × (new ≡ mid))
      → Acted reached replies (λ s. act serving seat place pc s o (instr.Op op)) old new o2 flow
  value_landed old mid new made o2 flow same does acted short =
      op_landed serving seat place pc o op count ds stack enough all taken rest old mid new (one_of made) o2 flow (op_one serving seat op this ds old mid (one_of made) is made refl same does) acted
      (λ e. short (one_short made e))
