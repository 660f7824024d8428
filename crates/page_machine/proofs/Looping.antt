-- A turn keeps what the loop of a run stands on.
use Rattle.std.proofs.Common.{◌≡◌, ◌≤◌, ◌<◌, ◌+◌, ◌-◌, ◌*◌, ℕ, Bool, List, [], ◌++◌, length, refl, sym, ap, ◌∙◌, subst, append-nil, arith}
use Rattle.std.specs.Prelude.{Some, slice_get}
use Rattle.out_buffer.specs.Writer.{has_committed}
use Rattle.page_code.specs.declared.code.Cell.{Cell}
use Rattle.page_code.specs.declared.call.CallOut.{CallOut}
use Rattle.page_code.specs.declared.call.CallOut.TheVariants as call
use Rattle.page_code.specs.declared.instr.Instr.{Instr}
use Rattle.page_code.specs.declared.instr.Instr.TheVariants as instr
use Rattle.page_code.specs.Fits.{Carries, FitsInstr}
use Rattle.page_code.specs.Shapes.{empty_shape}
use Rattle.run_world.specs.Known.{ServesSo, Known}
use Rattle.run_world.specs.Origin.{Origin}
use Rattle.run_world.specs.Part.{given}
use Rattle.run_moves.specs.Simple.{IsSimple}
use Rattle.page_machine.specs.Turn.{CallBegins, CodeRuns, Ran, Turns, Stepped, StandsInCode, SeatHolds}
use Rattle.run_moves.specs.declared.flow.End.{End}
use Rattle.run_moves.specs.declared.flow.Flow.{Flow}
use Rattle.run_moves.specs.declared.flow.Flow.TheVariants as flows
use Rattle.run_world.specs.declared.served.Served as machine_served
use Rattle.run_world.proofs.Knowing.{known_on, serves_on}
use Rattle.page_machine.proofs.Turning.{Leads, leads_here, SoFar, so_far_on, so_far_over, turned_from}
use Rattle.page_meaning.specs.State.{State}
use Rattle.page_meaning.specs.Work.{visit_limit}
use Rattle.page_table.specs.Act.{act, act_at, called_out, move_of}
use Rattle.page_table.specs.Checked.{SeatFits, Stands}
use Rattle.page_table.specs.Landing.{Running}
use Rattle.page_table.specs.Measure.{span, weight, to_go}
use Rattle.page_table.specs.Open.{Open, fresh_open}
use Rattle.page_table.specs.Program.{Stored, Serving}
use Rattle.page_table.specs.Runs.{Turned}
use Rattle.page_table.specs.Seat.{Seat, in_page, in_tag, code_of}
use Rattle.page_table.specs.Finds.{Finds}
use Rattle.page_table.proofs.Finding.{each_finds}
use Rattle.page_table.proofs.Fitting.{carries_within, fit_at, seat_code_fits}
use Rattle.page_table.proofs.Frames.{turns_leave_frames}
use Rattle.page_table.proofs.Standing.{starts}
use Rattle.page_table.proofs.Turns.{turns_stand, turns_come_nearer}
use Rattle.pg_text.specs.declared.place.Place.{Place}
use Rattle.scopes.specs.Scopes.{ScopeState}
use Rattle.site_words.specs.Law.{Answer}

-- a seat holds among more frames
pub holds_more : (seat : Seat) (n m : ℕ) → n ≤ m → SeatHolds seat n → SeatHolds seat m
holds_more (in_page program params) n m h s = tt
holds_more (in_tag call caller) n m h s = (omega (arith, h, s.0), s.1, holds_more caller n m h s.2)

-- a run begins with the empty shape
pub standing_start : (seat : Seat) (at left kept : ℕ) (o : Open) → Carries (code_of seat) at empty_shape → o ≡ fresh_open left → StandsInCode seat at kept o
standing_start seat at left kept o carries e = record { base = kept; stands = subst (Stands (code_of seat) kept at kept) (sym e) (starts (code_of seat) kept at left carries) }

-- the same between the worlds of a run, for whatever serving there is and whatever states they stand for
pub record RunSoFar {W : Type 0} (reached : W → Origin → W → State → Type 0) (replies : W → List Answer) (serves : W → Serving → Type 0) (seat : Seat) (at left : ℕ) (old now : W) (pc : ℕ) (o : Open) : Type 0 where
  pub by : (serving : Serving) → serves old serving → (first : W) (origin : Origin) (s : State) → reached first origin old s
      → SoFar serving seat at left s (reached first origin now) (replies old) (replies now) pc o

pub so_far_start : (serving : Serving) (seat : Seat) (at left : ℕ) (s : State) (stands : State → Type 0) (answers : List Answer) (o : Open) → o ≡ fresh_open left → stands s
    → SoFar serving seat at left s stands answers answers at o
so_far_start serving seat at left s stands answers o e stood = record {
  got = [];
  replies = sym (append-nil answers);
  state = s;
  stood = stood;
  leads = λ future.
      subst (λ x. Leads serving seat (Running at (given future s) (fresh_open left)) (Running at (given future s) x)) (sym e) (leads_here serving seat (Running at (given future s) (fresh_open left)));
}

-- the cell of a place, and the move of its instruction
pub cell_at : (code shown : List Cell) (pc : ℕ) (cell : Cell) → shown ≡ code → slice_get shown pc ≡ Some cell → slice_get code pc ≡ Some cell
cell_at code shown pc cell e is = subst (λ (cells : List Cell). slice_get cells pc ≡ Some cell) e is

pub move_is : (serving : Serving) (seat : Seat) (pc : ℕ) (s : State) (o : Open) (cell : Cell) (this : Instr) → slice_get (code_of seat) pc ≡ Some cell → cell.instr ≡ this
    → move_of serving seat pc s o ≡ act serving seat cell.place pc s o this
move_is serving seat pc s o cell this e is = ap (act_at serving seat pc s o) e ∙ ap (act serving seat cell.place pc s o) is

module _ {W : Type 0} {reached : W → Origin → W → State → Type 0} {replies : W → List Answer} {stores : W → ((path : List ℕ) → Stored) → Type 0}
    (stores_on : (first w : W) (origin : Origin) (s : State) (stored : (path : List ℕ) → Stored) → reached first origin w s → stores first stored → stores w stored)
    (again : (first w : W) (origin : Origin) (s : State) → reached first origin w s → reached w origin w s)
    (served : machine_served.Served) (seat : Seat) (at left : ℕ) (start w : W) (pc : ℕ) (o : Open) (begun : Known reached stores served start)
    (far : RunSoFar reached replies (ServesSo stores served) seat at left start w pc o) where
  -- what was served at the start is served
  pub serves_so_far : (serving : Serving) → ServesSo stores served start serving → ServesSo stores served w serving
  serves_so_far serving serves =
      let here = far.by begun.serving begun.serves start begun.origin begun.state begun.stands in
      serves_on stores_on again served start w begun.origin here.state serving here.stood serves

  -- the run is over with a turn
  pub over_with : (new : W) (o2 : Open) (end : End) → Stepped reached replies (ServesSo stores served) seat (λ serving s. move_of serving seat pc s o) w new o2 (flows.Over end)
      → Ran reached replies (ServesSo stores served) (CodeRuns seat at left) start new end
  over_with new o2 end stepped = record {
    by = λ serving serves first origin s stands.
        let f = far.by serving serves first origin s stands in
        so_far_over serving seat at left s (reached first origin w) (reached first origin new) (replies start) (replies w) (replies new) pc o o2 end f
        (stepped.by serving (serves_so_far serving serves) first origin f.state f.stood);
  }

module _ {W : Type 0} {reached : W → Origin → W → State → Type 0} {replies : W → List Answer} {stores : W → ((path : List ℕ) → Stored) → Type 0}
    {variables : W → ScopeState} {kept visits : W → ℕ} {committed : W → Bool}
    (stores_on : (first w : W) (origin : Origin) (s : State) (stored : (path : List ℕ) → Stored) → reached first origin w s → stores first stored → stores w stored)
    (again : (first w : W) (origin : Origin) (s : State) → reached first origin w s → reached w origin w s)
    (tells : (first w : W) (origin : Origin) (s : State) → reached first origin w s
    → (variables w ≡ s.scopes) × (kept w ≡ length s.writer.kept) × (visits w ≡ s.visits) × (committed w ≡ has_committed s.writer))
    (served : machine_served.Served) (seat : Seat) (seated : SeatFits seat) (pc to : ℕ) (o o2 : Open) (w new : W) (k : Known reached stores served w)
    (stepped : Stepped reached replies (ServesSo stores served) seat (λ serving s. move_of serving seat pc s o) w new o2 (flows.Go to)) where
  turn : Turns k.serving seat (λ s. move_of k.serving seat pc s o) (reached w k.origin new) k.state o2 (replies w) (replies new) (flows.Go to)
  turn = stepped.by k.serving k.serves w k.origin k.state k.stands

  turned : Turned k.serving seat (Running pc (given (turn.got ++ []) k.state) o) (Running to (given [] turn.after) o2)
  turned = turned_from k.serving seat pc (given (turn.got ++ []) k.state) o (Running to (given [] turn.after) o2) (turn.turns [])

  pub loop_known : Known reached stores served new
  loop_known = known_on stores_on again served w new k turn.after turn.stood

  pub loop_standing : StandsInCode seat pc (kept w) o → StandsInCode seat to (kept new) o2
  loop_standing st = record {
    base = st.base;
    stands = subst (λ n. Stands (code_of seat) st.base to n o2) (sym (tells w new k.origin turn.after turn.stood).1)
        (turns_stand k.serving k.fits seat seated st.base pc (given (turn.got ++ []) k.state) o
        (subst (λ n. Stands (code_of seat) st.base pc n o) (tells w w k.origin k.state k.stands).1 st.stands) to (given [] turn.after) o2 turned);
  }

  pub loop_holds : SeatHolds seat (length (variables w).frames) → SeatHolds seat (length (variables new).frames)
  loop_holds h =
      let one = ap (λ v. length v.frames) (tells w w k.origin k.state k.stands).0 in
      let two = ap (λ v. length v.frames) (tells w new k.origin turn.after turn.stood).0 in
      let more = turns_leave_frames k.serving seat pc to (given (turn.got ++ []) k.state) (given [] turn.after) o o2 turned in
      holds_more seat (length (variables w).frames) (length (variables new).frames) (omega (arith, one, two, more)) h

  pub loop_nearer : StandsInCode seat pc (kept w) o
      → (visit_limit - visits new) * span (code_of seat) + weight (length (code_of seat)) to o2.catches < (visit_limit - visits w) * span (code_of seat) + weight (length (code_of seat)) pc o.catches
  loop_nearer st =
      let less = turns_come_nearer k.serving k.fits seat seated st.base pc (given (turn.got ++ []) k.state) o
      (subst (λ n. Stands (code_of seat) st.base pc n o) (tells w w k.origin k.state k.stands).1 st.stands) to (given [] turn.after) o2 turned in
      subst (λ n. (visit_limit - n) * span (code_of seat) + weight (length (code_of seat)) to o2.catches < (visit_limit - visits w) * span (code_of seat) + weight (length (code_of seat)) pc o.catches)
      (sym (tells w new k.origin turn.after turn.stood).2)
      (subst (λ n. to_go (code_of seat) to (given [] turn.after) o2 < (visit_limit - n) * span (code_of seat) + weight (length (code_of seat)) pc o.catches)
      (sym (tells w w k.origin k.state k.stands).2) less)

  -- so does the loop
  pub behind_turn : (at left : ℕ) (start : W) → Known reached stores served start → SeatHolds seat (length (variables w).frames) → StandsInCode seat pc (kept w) o
      → RunSoFar reached replies (ServesSo stores served) seat at left start w pc o
      → Known reached stores served new × SeatHolds seat (length (variables new).frames) × StandsInCode seat to (kept new) o2 × RunSoFar reached replies (ServesSo stores served) seat at left start new to o2
  behind_turn at left start begun h st far = (
    loop_known,
    loop_holds h,
    loop_standing st,
    record {
      by = λ serving serves first origin s stands.
          let f = far.by serving serves first origin s stands in
          so_far_on serving seat at left s (reached first origin w) (reached first origin new) (replies start) (replies w) (replies new) pc to o o2 f
          (stepped.by serving (serves_so_far stores_on again served seat at left start w pc o begun far serving serves) first origin f.state f.stood);
    },
  )

-- what an instruction finds
pub finds_at : {W : Type 0} {reached : W → Origin → W → State → Type 0} {stores : W → ((path : List ℕ) → Stored) → Type 0} {variables : W → ScopeState} {kept visits : W → ℕ} {committed : W → Bool}
    (tells : (first w : W) (origin : Origin) (s : State) → reached first origin w s
    → (variables w ≡ s.scopes) × (kept w ≡ length s.writer.kept) × (visits w ≡ s.visits) × (committed w ≡ has_committed s.writer))
    (served : machine_served.Served) (seat : Seat) → SeatFits seat → (pc : ℕ) (o : Open) (w : W) (k : Known reached stores served w) → StandsInCode seat pc (kept w) o → (cell : Cell) → slice_get (code_of seat) pc ≡ Some cell
    → Finds (length (code_of seat)) pc (kept w) o cell.instr
finds_at {kept = kept} tells served seat seated pc o w k st cell e =
    subst (λ n. Finds (length (code_of seat)) pc n o cell.instr) (sym (tells w w k.origin k.state k.stands).1)
    (each_finds k.serving k.fits seat seated st.base pc k.state o (subst (λ n. Stands (code_of seat) st.base pc n o) (tells w w k.origin k.state k.stands).1 st.stands) cell e)

-- what a call gives begins with the empty shape
pub begins_at : (seat : Seat) → SeatFits seat → (pc : ℕ) (cell : Cell) (what : CallOut) → slice_get (code_of seat) pc ≡ Some cell → cell.instr ≡ instr.CallOut what → CallBegins (code_of seat) (pc + 1) what
begins_at seat seated pc cell what e is =
    let code = code_of seat in
    let cf = seat_code_fits seat seated in
    let f = fit_at code code 0 pc cell cf.1 e in
    let from_zero : 0 + pc ≡ pc = omega arith in
    let fi : FitsInstr code pc cell.shape cell.instr = subst (λ m. FitsInstr code m cell.shape cell.instr) from_zero f.1 in
    go what (subst (FitsInstr code pc cell.shape) is fi)
  where
    go : (what : CallOut) → FitsInstr (code_of seat) pc cell.shape (instr.CallOut what) → CallBegins (code_of seat) (pc + 1) what
    go (call.Tag c) h = (h.next.0, h.next.1)
    go call.Body h = tt
    go (call.Fragment name) h = tt
    go (call.Include flush params) h = tt
    go call.Import h = tt

-- what calls nothing
pub simple_of : (i : Instr) → ((what : CallOut) → i ≡ instr.CallOut what → ⊥) → IsSimple i
simple_of (instr.CallOut what) h = absurd (h what refl)
simple_of (instr.Op o) h = tt
simple_of (instr.Take n) h = tt
simple_of instr.StartBody h = tt
simple_of instr.TakeBody h = tt
simple_of (instr.Jump n) h = tt
simple_of (instr.JumpIf b n) h = tt
simple_of (instr.JumpNull n) h = tt
simple_of (instr.Ensure x bean n) h = tt
simple_of (instr.LoopStart kind) h = tt
simple_of (instr.LoopNext n) h = tt
simple_of (instr.CatchStart n) h = tt
simple_of instr.CatchEnd h = tt
simple_of (instr.Leave how) h = tt

-- a place at which a run stands is in its code
pub within_code : (seat : Seat) (pc kept : ℕ) (o : Open) → StandsInCode seat pc kept o → pc < length (code_of seat)
within_code seat pc kept o st = carries_within (code_of seat) pc st.stands.shape st.stands.carries

-- a call that is this one
pub call_as : {W : Type 0} {reached : W → Origin → W → State → Type 0} {replies : W → List Answer} {serves : W → Serving → Type 0} (seat : Seat) (place : Place) (behind : ℕ) (o : Open) (what this : CallOut) (old new : W)
    (o2 : Open) (flow : Flow) → what ≡ this → Stepped reached replies serves seat (λ serving s. called_out serving seat place behind this s o) old new o2 flow
    → Stepped reached replies serves seat (λ serving s. called_out serving seat place behind what s o) old new o2 flow
call_as {reached = reached} {replies = replies} {serves = serves} seat place behind o what this old new o2 flow e stepped =
    subst (λ x. Stepped reached replies serves seat (λ serving s. called_out serving seat place behind x s o) old new o2 flow) (sym e) stepped
