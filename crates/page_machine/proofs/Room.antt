-- Behind a run of its own as many frames stand as before it.
use Rattle.std.proofs.Common.{◌≡◌, ◌≤◌, ◌+◌, ℕ, Bool, List, [], ◌∷◌, ◌++◌, length, length-append, sym, ap, ◌∙◌, subst, arith}
use Rattle.http_in.specs.declared.params.Param.{Param}
use Rattle.out_buffer.specs.Writer.{has_committed}
use Rattle.run_world.specs.Known.{ServesSo, Known}
use Rattle.run_world.specs.Origin.{Origin}
use Rattle.run_world.specs.Part.{given, Changes}
use Rattle.page_machine.specs.Turn.{CodeRuns, Ran}
use Rattle.page_meaning.specs.Context.{Export}
use Rattle.page_meaning.specs.Variables.{entries_of_frame}
use Rattle.page_table.specs.Act.{with_stack}
use Rattle.pg_value.specs.Datum.{Datum}
use Rattle.run_parts.specs.Exports.{change_of, nested_changes}
use Rattle.run_parts.specs.declared.exports.Change as machine_change
use Rattle.std.specs.Prelude.{drop, map, reverse, take}
use Rattle.run_moves.specs.declared.flow.End.{End}
use Rattle.run_world.specs.declared.served.Served as machine_served
use Rattle.page_machine.proofs.CallExits.{EndIs}
use Rattle.page_meaning.specs.Growth.{state_of}
use Rattle.page_meaning.specs.State.{State}
use Rattle.page_meaning.specs.Went.{Did, Well, Raised, Ended, Awaits, forwards, redirects}
use Rattle.page_table.specs.Landing.{Running}
use Rattle.page_table.specs.Laws.{LeavesFrames}
use Rattle.page_table.specs.Open.{Open, fresh_open}
use Rattle.page_table.specs.Pages.{page_begun}
use Rattle.page_table.specs.Program.{Program, Stored, Serving}
use Rattle.page_table.specs.Runs.{EndsBehind, PageRuns}
use Rattle.page_table.specs.Seat.{Seat, in_page}
use Rattle.page_table.proofs.Frames.{run_frames, runs_leave_frames}
use Rattle.page_table.proofs.Pages.{page_begun_keeps}
use Rattle.page_table.proofs.Tame.{framed}
use Rattle.scopes.specs.Scopes.{Entries, ScopeState}
use Rattle.site_words.specs.Law.{Answer}

-- what two functions give is the same under other names
pub between : {A B C : Type 0} (f : A → B) (h : C → B) (x y : A) (u v : C) → x ≡ y → f y ≡ h u → u ≡ v → f x ≡ h v
between f h x y u v first same last = ap f first ∙ same ∙ ap h last

-- a place that many cells behind another, by a count under another name
pub behind_so : (at n count : ℕ) → n ≡ count → at + n ≡ at + count
behind_so at n count same = ap (λ (k : ℕ). at + k) same

-- what is left of a stack, and what was taken from it, by a count under another name
pub dropped_so : (o : Open) (stack : List Datum) (n count : ℕ) → stack ≡ drop n o.stack → n ≡ count → with_stack stack o ≡ with_stack (drop count o.stack) o
dropped_so o stack n count left same = ap (λ (xs : List Datum). with_stack xs o) (left ∙ ap (λ (k : ℕ). drop k o.stack) same)

pub taken_so : (stack top : List Datum) (n count : ℕ) → top ≡ reverse (take n stack) → n ≡ count → top ≡ reverse (take count stack)
taken_so stack top n count taken same = taken ∙ ap (λ (k : ℕ). reverse (take k stack)) same

-- the changes to a caller's variables are those that its frame decides
pub changes_so : (exports : List Export) (slice made : List machine_change.Change) (seen now held : ScopeState) (frame : ℕ)
    → slice ≡ made → map change_of made ≡ nested_changes exports (entries_of_frame seen seen.current) → seen ≡ now → now ≡ held → frame ≡ now.current
    → map change_of slice ≡ nested_changes exports (entries_of_frame held frame)
changes_so exports slice made seen now held frame same decided looked holds current =
    ap (map change_of) same ∙ decided ∙ ap (λ (v : ScopeState). nested_changes exports (entries_of_frame v v.current)) (looked ∙ holds)
    ∙ ap (λ (k : ℕ). nested_changes exports (entries_of_frame held k)) (sym (current ∙ ap (λ (v : ScopeState). v.current) holds))

-- the frames that were counted are those of a world's variables
pub counted_so : (variables seen : ScopeState) (count : ℕ) → seen ≡ variables → count ≡ length seen.frames → count ≡ length variables.frames
counted_so variables seen count same counted = counted ∙ ap (λ (v : ScopeState). length v.frames) same

-- runs that take no frame back
abbrev pub LeaveFrames : (Serving → State → Did → Type 0) → Type 0
LeaveFrames runs = (serving : Serving) (s : State) (d : Did) → runs serving s d → LeavesFrames (length s.scopes.frames) d

pub code_leaves : (seat : Seat) (at left : ℕ) → LeaveFrames (CodeRuns seat at left)
code_leaves seat at left serving s d r = runs_leave_frames serving seat (Running at s (fresh_open left)) d r

behind_leaves : (serving : Serving) (program : Program) (params : List Param) (left n : ℕ) (w d : Did) → n ≤ framed (state_of w) → EndsBehind serving program params left w d → LeavesFrames n d
behind_leaves serving program params left n (Well u s) d h r = run_frames n serving (in_page program params) (Running 0 s (fresh_open left)) d h r
behind_leaves serving program params left n (Raised f place s) d h r = subst (LeavesFrames n) (sym r) h
behind_leaves serving program params left n (Ended (redirects location) s) d h r = subst (LeavesFrames n) (sym r) h
behind_leaves serving program params left n (Ended (forwards path ps l) s) d h r = subst (LeavesFrames n) (sym r) tt
behind_leaves serving program params left n (Awaits step s) d h r = subst (LeavesFrames n) (sym r) tt

pub page_leaves : (program : Program) (params : List Param) (left : ℕ) → LeaveFrames (λ serving s d. PageRuns serving program params left s d)
page_leaves program params left serving s d r = behind_leaves serving program params left (framed s) (page_begun program s) d (page_begun_keeps program s).frames r

module _ {W : Type 0} {reached : W → Origin → W → State → Type 0} {replies : W → List Answer} {stores : W → ((path : List ℕ) → Stored) → Type 0} {variables : W → ScopeState} {kept visits : W → ℕ} {committed : W → Bool}
    (tells : (first w : W) (origin : Origin) (s : State) → reached first origin w s
    → (variables w ≡ s.scopes) × (kept w ≡ length s.writer.kept) × (visits w ≡ s.visits) × (committed w ≡ has_committed s.writer))
    (served : machine_served.Served) where
  pub ran_room : (runs : Serving → State → Did → Type 0) → LeaveFrames runs → (entered ran : W) (k : Known reached stores served entered) (end : End) (ended : State → Did) → EndIs end ended
      → ((n : ℕ) (t : State) → LeavesFrames n (ended t) → n ≤ length t.scopes.frames) → Ran reached replies (ServesSo stores served) runs entered ran end
      → length (variables entered).frames ≤ length (variables ran).frames
  ran_room runs leaves entered ran k end ended is keeps run =
      let r = run.by k.serving k.serves entered k.origin k.state k.stands in
      let h = keeps (length k.state.scopes.frames) (given [] r.after)
      (leaves k.serving (given (r.got ++ []) k.state) (ended (given [] r.after)) (is (λ future d. runs k.serving (given (r.got ++ future) k.state) d) r.after r.ends [])) in
      let one = ap (λ v. length v.frames) (tells entered entered k.origin k.state k.stands).0 in
      let two = ap (λ v. length v.frames) (tells entered ran k.origin r.after r.stood).0 in
      omega (arith, one, two, h)

module _ {W : Type 0} {reached : W → Origin → W → State → Type 0} {stores : W → ((path : List ℕ) → Stored) → Type 0} {variables : W → ScopeState} {kept visits : W → ℕ} {committed : W → Bool}
    (tells : (first w : W) (origin : Origin) (s : State) → reached first origin w s
    → (variables w ≡ s.scopes) × (kept w ≡ length s.writer.kept) × (visits w ≡ s.visits) × (committed w ≡ has_committed s.writer))
    (served : machine_served.Served) where
  -- a change that takes no frame back
  pub changed_room : (change : State → State) → ((s : State) → length s.scopes.frames ≤ length (change s).scopes.frames) → (w mid : W) (k : Known reached stores served w) → Changes reached change w mid
      → length (variables w).frames ≤ length (variables mid).frames
  changed_room change keeps w mid k changes =
      let one = ap (λ v. length v.frames) (tells w w k.origin k.state k.stands).0 in
      let two = ap (λ v. length v.frames) (tells w mid k.origin (change k.state) (changes.by w k.origin k.state k.stands)).0 in
      omega (arith, one, two, keeps k.state)

module _ {W : Type 0} {reached : W → Origin → W → State → Type 0} {variables : W → ScopeState} {kept visits : W → ℕ} {committed : W → Bool}
    (tells : (first w : W) (origin : Origin) (s : State) → reached first origin w s
    → (variables w ≡ s.scopes) × (kept w ≡ length s.writer.kept) × (visits w ≡ s.visits) × (committed w ≡ has_committed s.writer)) where
  -- what is told of the variables
  pub told_variables : (first w : W) (origin : Origin) (s : State) → reached first origin w s → variables w ≡ s.scopes
  told_variables first w origin s h = (tells first w origin s h).0

  pub told_kept : (first w : W) (origin : Origin) (s : State) → reached first origin w s → kept w ≡ length s.writer.kept
  told_kept first w origin s h = (tells first w origin s h).1

-- one frame more
pub more_frames : (frames : List Entries) (entries : Entries) → length frames ≤ length (frames ++ entries ∷ [])
more_frames frames entries = omega (arith, length-append frames (entries ∷ []))
