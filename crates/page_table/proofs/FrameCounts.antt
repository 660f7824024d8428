-- How many frames stand behind the changes of frames that calls make.
use Rattle.std.proofs.Common.{◌≤◌, ℕ, List, [], ◌∷◌, length, arith}
use Rattle.std.proofs.lemmas.List.{length-append, length-set, length-take}
use Rattle.scopes.specs.Scopes.{Entries, ScopeState, with_frame_of}
use Rattle.page_meaning.specs.Context.{Export}
use Rattle.page_meaning.specs.Exports.{copied, copied_out, given_back, restored, is_at_end, is_at_fragment}
use Rattle.page_meaning.specs.State.{State}
use Rattle.page_meaning.specs.Variables.{back_to, entries_of_frame, with_frame_entries}
use Rattle.page_table.specs.Calls.{copied_to_caller}
use Rattle.page_table.specs.Seat.{CallSeat}
use Rattle.page_table.proofs.Tame.{framed}

-- other entries in a frame
pub entries_frames : (frame : ℕ) (entries : Entries) (scopes : ScopeState) → length scopes.frames ≤ length (with_frame_entries frame entries scopes).frames
entries_frames frame entries scopes = omega (arith, length-set scopes.frames frame entries)

-- one frame more
pub frame_more : (entries : Entries) (s : State) → framed s ≤ length (with_frame_of entries s.scopes).frames
frame_more entries s = omega (arith, length-append s.scopes.frames (entries ∷ []))

-- what is copied to the caller's frame
pub copied_frames : (c : CallSeat) (s : State) → framed s ≤ framed (copied_to_caller c s)
copied_frames c s =
    entries_frames c.frame (copied is_at_fragment c.exports (entries_of_frame s.scopes s.scopes.current) (entries_of_frame s.scopes c.frame)) s.scopes

-- what is given back to it at the end of a call
pub given_frames : (exports : List Export) (before : ScopeState) (frame : ℕ) (scopes : ScopeState)
    → length scopes.frames ≤ length (given_back exports before frame (copied_out is_at_end exports frame scopes)).frames
given_frames exports before frame scopes =
    let more = copied_out is_at_end exports frame scopes in
    let one = entries_frames frame (copied is_at_end exports (entries_of_frame scopes scopes.current) (entries_of_frame scopes frame)) scopes in
    let two = entries_frames frame (restored exports (entries_of_frame before frame) (entries_of_frame more frame)) more in
    omega (arith, one, two)

-- the frames of before
pub back_frames : (n : ℕ) (before : ScopeState) (s : State) → n ≤ length before.frames → n ≤ framed s → n ≤ framed (back_to before s)
back_frames n before s h k = omega (arith, h, k, length-take (length before.frames) s.scopes.frames)
