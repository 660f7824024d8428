-- The exits of a call of a tag file.
use Rattle.std.proofs.Common.{◌≡◌, ◌≤◌, ◌+◌, ℕ, suc, List, length, Option, Some, None, Ok, Err, sym, ap, ◌∙◌}
use Rattle.std.specs.Prelude.{take, drop, reverse}
use Rattle.page_code.specs.Calls.{call_size}
use Rattle.page_code.specs.Fits.{CodeFits}
use Rattle.page_code.specs.declared.call.CallBody.{CallBody}
use Rattle.page_code.specs.declared.call.Fragment.{Fragment}
use Rattle.page_code.specs.declared.call.CallOut.{CallOut}
use Rattle.page_code.specs.declared.call.CallOut.TheVariants as call
use Rattle.page_code.specs.declared.call.TagCall.{TagCall}
use Rattle.run_moves.specs.Acted.{MoveGrows, Acted}
use Rattle.run_world.specs.Origin.{Origin}
use Rattle.run_world.specs.Part.{given, Changes}
use Rattle.run_moves.specs.Landing.{failing}
use Rattle.page_machine.specs.Turn.{CodeRuns}
use Rattle.run_moves.specs.declared.flow.End.TheVariants as ends
use Rattle.run_moves.specs.declared.flow.Flow.{Flow}
use Rattle.run_moves.specs.declared.flow.Flow.TheVariants as flows
use Rattle.run_moves.proofs.Acts.{acted_as, acted_on}
use Rattle.run_moves.proofs.Behind.{acted_spent, fell_move}
use Rattle.page_machine.proofs.Calling.{Enters, enters_as, into_enters}
use Rattle.run_moves.proofs.Landings.{popped_all_is}
use Rattle.run_world.proofs.Parts.{result_doing}
use Rattle.http_in.specs.declared.params.Param.{Param}
use Rattle.page_meaning.specs.Attributes.{table_of}
use Rattle.page_meaning.specs.Context.{Export}
use Rattle.page_meaning.specs.Exports.{exports_of}
use Rattle.page_meaning.specs.State.{State, in_scopes}
use Rattle.page_meaning.specs.Tags.{first_frame}
use Rattle.page_meaning.specs.Went.{Did, result_of}
use Rattle.page_table.specs.Act.{called_out, with_stack}
use Rattle.page_table.specs.Checked.{SeatFits, TagsFit}
use Rattle.page_table.specs.Calls.{call_back, call_entered, call_of, tag_called}
use Rattle.page_table.specs.Landing.{Config, Running, thrown, land}
use Rattle.page_table.specs.Pages.{include_path}
use Rattle.page_table.specs.Move.{Move, On, Into, Stuck, one_deeper, then_move}
use Rattle.page_table.specs.Open.{Open, fresh_open}
use Rattle.page_table.specs.Program.{Program, TagCode, Serving, tag_at}
use Rattle.page_table.specs.Seat.{CallSeat, Seat, in_page, in_tag, program_of}
use Rattle.page_table.proofs.GivenFits.{tag_fits}
use Rattle.page_table.proofs.Growing.{called_goes, entered_goes}
use Rattle.page_table.proofs.Onward.{MoveGoes}
use Rattle.pg_text.specs.Failure.{Answers}
use Rattle.pg_text.specs.declared.failure.Failure.{Failure}
use Rattle.pg_text.specs.declared.failure.Failure.TheVariants as failure
use Rattle.pg_text.specs.declared.place.Place.{Place}
use Rattle.pg_value.specs.Datum.{Datum}
use Rattle.pg_value.specs.declared.fault.RunFault.{RunFault}
use Rattle.pg_value.specs.declared.fault.RunFault.TheVariants as fault
use Rattle.scopes.specs.Scopes.{Entries, with_frame_of}
use Rattle.site_words.specs.Law.{Answer}

-- a move of the table only adds
pub goes_grows : (k : ℕ) (s : State) (m : Move) → MoveGoes k s m → MoveGrows s m
goes_grows k s (On c) h = h.grows
goes_grows k s (Into callee first back) h = (h.begins.grows, λ d. (h.backs d).grows)
goes_grows k s Stuck h = tt

pub called_grows : (serving : Serving) (seat : Seat) (place : Place) (behind : ℕ) (c : CallOut) (s : State) (o : Open) → MoveGrows s (called_out serving seat place behind c s o)
called_grows serving seat place behind c s o = goes_grows o.left s (called_out serving seat place behind c s o) (called_goes serving seat place behind c s o)

-- the code of a tag file that is found fits
program_fits : (seat : Seat) → SeatFits seat → TagsFit (program_of seat).tags
program_fits (in_page program params) h = h.1
program_fits (in_tag call caller) h = program_fits caller h.2

pub tag_code_fits : (seat : Seat) → SeatFits seat → (path : List ℕ) (tag : TagCode) → tag_at path (program_of seat).tags ≡ Some tag → CodeFits tag.code
tag_code_fits seat h path tag e = tag_fits path (program_of seat).tags (program_fits seat h) tag e

-- the tag file that is found in a program is the one of that program under another name
pub finds_so : (path : List ℕ) (program other : Program) (found : Option TagCode) → program ≡ other → found ≡ tag_at path program.tags → tag_at path other.tags ≡ found
finds_so path program other found same e = ap (λ (p : Program). tag_at path p.tags) (sym same) ∙ sym e

-- a call by its parts
abbrev pub call_with : TagCode → CallBody → List Fragment → (behind : ℕ) → List Export → (frame : ℕ) → CallSeat
call_with tag body fragments behind exports frame = record { tag = tag; exports = exports; body = body; fragments = fragments; behind = behind; frame = frame }

pub call_is : (tag : TagCode) (c : TagCall) (behind : ℕ) (entries : Entries) (s : State) (exports : List Export) (fragments : List Fragment) (frame : ℕ) → exports ≡ exports_of entries tag.decl.variables
    → fragments ≡ c.fragments → frame ≡ s.scopes.current → call_with tag c.body fragments behind exports frame ≡ call_of tag c behind entries s
call_is tag c behind entries s exports fragments frame e q f =
    ap (λ x. call_with tag c.body fragments behind x frame) e
    ∙ ap (λ x. call_with tag c.body x behind (exports_of entries tag.decl.variables) frame) q
    ∙ ap (λ x. call_with tag c.body c.fragments behind (exports_of entries tag.decl.variables) x) f

-- a level less, where one is left
pub deeper_none : (place : Place) (s : State) (o : Open) (levels : ℕ) (go : ℕ → Move) → levels ≡ 0 → one_deeper place s o levels go ≡ On (thrown fault.TooDeep place s o)
deeper_none place s o levels go e = ap (λ n. one_deeper place s o n go) e

-- an include where no deeper run may begin
pub include_deep : (serving : Serving) (place : Place) (params : List Param) (path : List ℕ) (to : ℕ) (s : State) (o : Open) → o.left ≡ 0 → include_path serving place params path to s o ≡ On (thrown fault.TooDeep place s o)
include_deep serving place params path to s o none = deeper_none place s o o.left _ none

pub deeper_some : (place : Place) (s : State) (o : Open) (levels left : ℕ) (go : ℕ → Move) → levels ≡ suc left → one_deeper place s o levels go ≡ go left
deeper_some place s o levels left go e = ap (λ n. one_deeper place s o n go) e

module _ (place : Place) (c : TagCall) (behind : ℕ) (seat : Seat) (o p : Open) (values : List Datum) (enough : length c.names ≤ length o.stack) (rest : p ≡ with_stack (drop (length c.names) o.stack) o)
    (taken : values ≡ reverse (take (length c.names) o.stack)) (found : Option TagCode) (finds : tag_at c.path (program_of seat).tags ≡ found) where
  -- the call with what it takes
  tag_is : (serving : Serving) (s : State) → called_out serving seat place behind (call.Tag c) s o ≡ tag_called place found c behind values seat s p
  tag_is serving s =
      popped_all_is (length c.names) o (λ ds q. tag_called place (tag_at c.path (program_of seat).tags) c behind ds seat s q) enough
      ∙ ap (λ ds. tag_called place (tag_at c.path (program_of seat).tags) c behind ds seat s (with_stack (drop (length c.names) o.stack) o)) (sym taken)
      ∙ ap (λ q. tag_called place (tag_at c.path (program_of seat).tags) c behind values seat s q) (sym rest)
      ∙ ap (λ x. tag_called place x c behind values seat s p) finds

  tag_as : (serving : Serving) (other : Option TagCode) → found ≡ other → (s : State) → called_out serving seat place behind (call.Tag c) s o ≡ tag_called place other c behind values seat s p
  tag_as serving other e s = tag_is serving s ∙ ap (λ x. tag_called place x c behind values seat s p) e

  -- with its first frame
  pub tag_made : (serving : Serving) (tag : TagCode) (is : found ≡ Some tag) (entries : Entries) (made : first_frame tag.decl (table_of c.names values) ≡ Ok entries) (s : State)
      → called_out serving seat place behind (call.Tag c) s o ≡ call_entered place (call_of tag c behind entries s) entries seat (behind + call_size c) s p
  tag_made serving tag is entries made s =
      tag_as serving (Some tag) is s
      ∙ ap (λ r. then_move p (result_of place r s) (λ entries s1. call_entered place (call_of tag c behind entries s1) entries seat (behind + call_size c) s1 p)) made

  module _ {W : Type 0} {reached : W → Origin → W → State → Type 0} {replies : W → List Answer} (serving : Serving) where
    -- no such tag file: the call is passed over
    pub tag_gone : (w : W) (to : ℕ) → found ≡ None → to ≡ behind + call_size c → Acted reached replies (λ s. called_out serving seat place behind (call.Tag c) s o) w w p (flows.Go to)
    tag_gone w to e size =
        acted_on (λ s. called_out serving seat place behind (call.Tag c) s o) w p to (λ s. tag_as serving None e s ∙ ap (λ n. On (Running n s p)) (sym size))

    module _ (tag : TagCode) (is : found ≡ Some tag) where
      -- the first frame wasn't made
      pub tag_failed : (old new : W) (failed : Failure RunFault) (o2 : Open) (flow : Flow) → Answers (first_frame tag.decl (table_of c.names values)) (Err failed)
          → Acted reached replies (failing place p failed) old new o2 flow → (failed ≡ failure.NoMemory → (flow ≡ flows.Over ends.NoMemory) × (new ≡ old))
          → Acted reached replies (λ s. called_out serving seat place behind (call.Tag c) s o) old new o2 flow
      tag_failed old new failed o2 flow answers acted short =
          acted_as (λ s. called_out serving seat place behind (call.Tag c) s o) (λ s. tag_called place (Some tag) c behind values seat s p) old new o2 flow (tag_as serving (Some tag) is)
          (fell_move place p (λ entries s1. call_entered place (call_of tag c behind entries s1) entries seat (behind + call_size c) s1 p) old old new failed o2 flow
          (λ entries t. goes_grows p.left t (call_entered place (call_of tag c behind entries t) entries seat (behind + call_size c) t p)
          (entered_goes place (call_of tag c behind entries t) entries seat (behind + call_size c) t p))
          (result_doing {view = λ x. x} old (first_frame tag.decl (table_of c.names values)) (Err failed) answers) acted short)

-- a call that is entered
module _ (place : Place) (c : TagCall) (behind : ℕ) (seat : Seat) (o : Open) (tag : TagCode) (entries : Entries) where
  abbrev pub entered_move : State → Move
  entered_move s = call_entered place (call_of tag c behind entries s) entries seat (behind + call_size c) s o

  pub entered_grows : (s : State) → MoveGrows s (entered_move s)
  entered_grows s = goes_grows o.left s (entered_move s) (entered_goes place (call_of tag c behind entries s) entries seat (behind + call_size c) s o)

  -- where it goes on behind its own run
  abbrev pub tag_back : (to : ℕ) (inner : CallSeat) → State → Did → Config
  tag_back to inner s d = land to (λ u. o.stack) o (call_back inner s d)

  pub tag_enters : (serving : Serving) (left to : ℕ) (inner : CallSeat) → o.left ≡ suc left → to ≡ behind + call_size c → (s : State) → inner ≡ call_of tag c behind entries s → (future : List Answer)
      → Enters serving seat (entered_move (given future s)) (CodeRuns (in_tag inner seat) 0 left serving (given future (in_scopes (with_frame_of entries s.scopes) s))) (tag_back to inner s)
  tag_enters serving left to inner level size s same future =
      enters_as serving seat (entered_move (given future s))
      (Into (in_tag inner seat) (Running 0 (given future (in_scopes (with_frame_of entries s.scopes) s)) (fresh_open left)) (tag_back to inner s))
      (CodeRuns (in_tag inner seat) 0 left serving (given future (in_scopes (with_frame_of entries s.scopes) s))) (tag_back to inner s)
      (deeper_some place (given future s) o o.left left _ level
      ∙ ap (λ x. Into (in_tag x seat) (Running 0 (given future (in_scopes (with_frame_of entries s.scopes) s)) (fresh_open left)) (λ d. land (behind + call_size c) (λ u. o.stack) o (call_back x s d))) (sym same)
      ∙ ap (λ n. Into (in_tag inner seat) (Running 0 (given future (in_scopes (with_frame_of entries s.scopes) s)) (fresh_open left)) (λ d. land n (λ u. o.stack) o (call_back inner s d))) (sym size))
      (into_enters serving seat (in_tag inner seat) (Running 0 (given future (in_scopes (with_frame_of entries s.scopes) s)) (fresh_open left)) (tag_back to inner s))

  module _ {W : Type 0} {reached : W → Origin → W → State → Type 0} {replies : W → List Answer} where
    -- no level is left
    pub tag_deep : (old new : W) (o2 : Open) (flow : Flow) → o.left ≡ 0 → Acted reached replies (λ s. On (thrown fault.TooDeep place s o)) old new o2 flow → Acted reached replies entered_move old new o2 flow
    tag_deep old new o2 flow none acted = acted_as entered_move (λ s. On (thrown fault.TooDeep place s o)) old new o2 flow (λ s. deeper_none place s o o.left _ none) acted

    -- memory ran out, and nothing but that
    pub tag_short : (old new : W) (o2 : Open) → Changes reached (λ s. s) old new → replies new ≡ replies old → Acted reached replies entered_move old new o2 (flows.Over ends.NoMemory)
    tag_short old new o2 changes same = acted_spent entered_move old new o2 entered_grows changes same
