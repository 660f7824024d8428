-- Calls and includes of checked code: what they run begins with the empty shape, and behind them the run stands with its place's shape.
use Rattle.std.proofs.Common.{◌≡◌, ℕ, ◌+◌, ◌-◌, ◌<◌, ◌≤◌, List, [], length, Option, Some, None, Result, Ok, Err, refl, subst, arith}
use Rattle.http_in.specs.declared.params.Param.{Param}
use Rattle.page_code.specs.Calls.{body_size, call_size}
use Rattle.page_code.specs.Fits.{Carries, BodyBegins, FragmentsBegin, CodeFits}
use Rattle.page_code.specs.declared.call.TagCall.{TagCall}
use Rattle.page_code.specs.declared.code.Cell.{Cell}
use Rattle.page_code.specs.declared.shape.Shape.{Shape}
use Rattle.pg_text.specs.declared.place.Place.{Place}
use Rattle.pg_text.specs.declared.resolution.BadPath.{BadPath}
use Rattle.pg_value.specs.Datum.{Datum}
use Rattle.pg_value.specs.declared.fault.RunFault.TheVariants as fault
use Rattle.scopes.specs.Scopes.{with_frame}
use Rattle.page_meaning.specs.Addresses.{local_url}
use Rattle.page_meaning.specs.Attributes.{table_of}
use Rattle.page_meaning.specs.Bodies.{put_text}
use Rattle.page_meaning.specs.Context.{Run}
use Rattle.page_meaning.specs.Includes.{ask_page, included_end, target_path, target_params}
use Rattle.page_meaning.specs.State.{State, in_scopes}
use Rattle.page_meaning.specs.Tags.{first_frame}
use Rattle.page_meaning.specs.Variables.{back_to}
use Rattle.page_meaning.specs.Went.{Did, Went, Well, Raised, Ended, Awaits, forwards, redirects, tidied, result_of}
use Rattle.page_table.specs.Calls.{call_back, call_entered, call_of, tag_called, copied_to_caller, given_entered, given_deeper, given_called}
use Rattle.page_table.specs.Checked.{SeatFits, HasShape}
use Rattle.page_table.specs.Landing.{Config, Running, land}
use Rattle.page_table.specs.Laws.{LeavesBodies}
use Rattle.page_table.specs.Measure.{weights, weight}
use Rattle.page_table.specs.Move.{Move, then_move, one_deeper}
use Rattle.page_table.specs.Open.{Open}
use Rattle.page_table.specs.Pages.{page_begun, page_entered, included, include_at, include_called, import_called}
use Rattle.page_table.specs.Program.{Program, TagCode, Stored, absent, plain, bad, good, Serving, served_of}
use Rattle.page_table.specs.Seat.{CallSeat, Seat, in_page, in_tag, code_of, Given, nothing, source_text, code_at}
use Rattle.page_table.proofs.FrameCounts.{copied_frames, frame_more}
use Rattle.page_table.proofs.GivenFits.{GivenFits}
use Rattle.page_table.proofs.Pages.{page_begun_keeps, ask_page_tame, local_url_tame}
use Rattle.page_table.proofs.Standing.{known, stored_at, Next, MoveFits, tame_leaves, ended_fewer, length_last, Ready, thrown_next, at_next, then_next, deeper_next, starts}
use Rattle.page_table.proofs.Tame.{kept, TameAt, result, keeps_then, keeps_scopes}
use Rattle.page_table.proofs.Weights.{nearer, three_pos, three_lt}
use Rattle.page_table.proofs.Words.{put_text_tame}

-- how the end of a run of its own is taken keeps the bodies
tidied_leaves : (base v : ℕ) (before : State) (d : Did) → LeavesBodies base v d → LeavesBodies base v (tidied (back_to before.scopes) d)
tidied_leaves base v before (Well u t) h = h
tidied_leaves base v before (Raised f place t) h = h
tidied_leaves base v before (Ended leaving t) h = h
tidied_leaves base v before (Awaits step t) h = h

call_back_leaves : (base v : ℕ) (c : CallSeat) (before : State) (d : Did) → LeavesBodies base v d → LeavesBodies base v (call_back c before d)
call_back_leaves base v c before (Well u t) h = h
call_back_leaves base v c before (Raised f place t) h = h
call_back_leaves base v c before (Ended leaving t) h = h
call_back_leaves base v c before (Awaits step t) h = h

pub later_leaves : (base v v2 : ℕ) (d : Did) → v ≤ v2 → LeavesBodies base v2 d → LeavesBodies base v d
later_leaves base v v2 (Well a s) h g = (g.0, omega (arith, h, g.1))
later_leaves base v v2 (Raised f p s) h g = (g.0, omega (arith, h, g.1))
later_leaves base v v2 (Ended leaving s) h g = ended_fewer base base v v2 leaving s (omega arith) h g
later_leaves base v v2 (Awaits step s) h g = tt

-- on at a later place with the same catches
pub go_on : (code : List Cell) (base v pc : ℕ) → pc < length code → (to : ℕ) (sh : Shape) (s2 : State) (o2 : Open) → pc < to → Carries code to sh → HasShape code base (kept s2) o2 sh
    → v ≤ s2.visits → Next code base v (weight (length code) pc o2.catches) (Running to s2 o2)
go_on code base v pc within to sh s2 o2 later carries has visits =
    let n = length code in
    (record { shape = sh; carries = carries; has = has }, nearer visits (omega (arith, three_lt (n - to) (n - pc) (omega (arith, later, within)), three_pos (n - to))))

pub has_kept : (code : List Cell) (base k k2 : ℕ) (o : Open) (sh : Shape) → k2 ≡ base + sh.bodies → HasShape code base k o sh → HasShape code base k2 o sh
has_kept code base k k2 o sh e has = record { values = has.values; bodies = e; loops = has.loops; catches = has.catches }

pub below : (n pc : ℕ) (o : Open) → weights n o.catches < weight n pc o.catches
below n pc o = omega (arith, three_pos (n - pc))

-- what is open, and the place behind a call with its shape
pub record Spot (code : List Cell) (base pc to : ℕ) (s : State) (o : Open) (sh : Shape) : Type 0 where
  pub within : pc < length code
  pub later : pc < to
  pub carries : Carries code to sh
  pub has : HasShape code base (kept s) o sh
  pub ready : Ready code base o sh

module _ (serving : Serving) (code : List Cell) (base pc to : ℕ) (sh : Shape) where
  abbrev weighs : Open → ℕ
  weighs o = weight (length code) pc o.catches

  -- on behind a part that kept the bodies
  spot_on : (v : ℕ) (s : State) (o : Open) → Spot code base pc to s o sh → v ≤ s.visits → Next code base v (weight (length code) pc o.catches) (Running to s o)
  spot_on v s o spot visits = go_on code base v pc spot.within to sh s o spot.later spot.carries spot.has visits

  spot_land : {A : Type 0} (v : ℕ) (s : State) (o : Open) (went : Went A) → Spot code base pc to s o sh → LeavesBodies (kept s) v went
      → Next code base v (weight (length code) pc o.catches) (land to (λ a. o.stack) o went)
  spot_land v s o went spot leaves =
      at_next code base v (weight (length code) pc o.catches) o sh went (λ a t. Running to t (record o { stack = o.stack })) spot.ready (below (length code) pc o)
      (subst (λ k. LeavesBodies k v went) spot.has.bodies leaves)
      (λ a t k vs. go_on code base v pc spot.within to sh t o spot.later spot.carries (has_kept code base (kept s) (kept t) o sh k spot.has) vs)

  spot_deeper : (v : ℕ) (place : Place) (s : State) (o : Open) (go : (left : ℕ) → Move) → Spot code base pc to s o sh → v ≤ s.visits
      → ((left : ℕ) → MoveFits serving code base v (weight (length code) pc o.catches) (go left))
      → MoveFits serving code base v (weight (length code) pc o.catches) (one_deeper place s o o.left go)
  spot_deeper v place s o go spot visits h =
      deeper_next serving code base v (weight (length code) pc o.catches) place s o sh o.left go spot.ready (below (length code) pc o) spot.has.bodies visits h

  spot_then : {A : Type 0} (v : ℕ) (s : State) (o : Open) (went : Went A) (go : A → State → Move) → Spot code base pc to s o sh → v ≤ s.visits → TameAt s went
      → ((a : A) (t : State) → Spot code base pc to t o sh → v ≤ t.visits → MoveFits serving code base v (weight (length code) pc o.catches) (go a t))
      → MoveFits serving code base v (weight (length code) pc o.catches) (then_move o went go)
  spot_then {A = A} v s o went go spot visits tame h =
      then_next serving code base v (weight (length code) pc o.catches) o sh went go spot.ready (below (length code) pc o)
      (earlier went (subst (λ k. LeavesBodies k s.visits went) spot.has.bodies (tame_leaves s went tame)))
      (λ a t k vs. h a t (record { within = spot.within; later = spot.later; carries = spot.carries; has = has_kept code base (kept s) (kept t) o sh k spot.has; ready = spot.ready }) vs)
    where
      earlier : (w : Went A) → LeavesBodies (base + sh.bodies) s.visits w → LeavesBodies (base + sh.bodies) v w
      earlier (Well a t) g = (g.0, omega (arith, visits, g.1))
      earlier (Raised f p t) g = (g.0, omega (arith, visits, g.1))
      earlier (Ended leaving t) g = ended_fewer (base + sh.bodies) (base + sh.bodies) v s.visits leaving t (omega arith) visits g
      earlier (Awaits step t) g = tt

  -- calls of tag files
  pub tag_next : (v : ℕ) (place : Place) (found : Option TagCode) → ((tag : TagCode) → found ≡ Some tag → CodeFits tag.code) → (c : TagCall) (behind : ℕ) (ds : List Datum) (caller : Seat)
      → SeatFits caller → BodyBegins (code_of caller) behind c.body → FragmentsBegin (code_of caller) (behind + body_size c.body) c.fragments → to ≡ behind + call_size c
      → (s : State) (o : Open) → Spot code base pc to s o sh → v ≤ s.visits → MoveFits serving code base v (weight (length code) pc o.catches) (tag_called place found c behind ds caller s o)
  tag_next v place None fits c behind ds caller seated body fragments e s o spot visits =
      subst (λ m. Next code base v (weight (length code) pc o.catches) (Running m s o)) e (spot_on v s o spot visits)
  tag_next v place (Some tag) fits c behind ds caller seated body fragments e s o spot visits =
      let r = first_frame tag.decl (table_of c.names ds) in
      spot_then v s o (result_of place r s) (λ entries s1. call_entered place (call_of tag c behind entries s1) entries caller (behind + call_size c) s1 o) spot visits (result place r s) (λ entries t spot2 vs.
      spot_deeper v place t o _ spot2 vs (λ left.
      let seat = call_of tag c behind entries t in
      let own = fits tag refl in
      record {
        own = kept t;
        fits = known (own, (body, fragments), seated);
        begun = λ h. (starts tag.code (kept t) 0 left own.0, vs);
        backs = λ d h. subst (λ m. Next code base v (weight (length code) pc o.catches) (land m (λ u. o.stack) o (call_back seat t d))) e
            (spot_land v t o (call_back seat t d) spot2 (call_back_leaves (kept t) v seat t d h));
      }))

  -- bodies and fragments
  given_entered_next : (v : ℕ) (place : Place) (left : ℕ) (g : Given) (c : CallSeat) (caller : Seat) → SeatFits caller → GivenFits (code_of caller) g
      → (s : State) (o : Open) → Spot code base pc to s o sh → v ≤ s.visits → MoveFits serving code base v (weight (length code) pc o.catches) (given_entered place left g c caller to s o)
  given_entered_next v place left nothing c caller seated fits s o spot visits = spot_on v s o spot visits
  given_entered_next v place left (source_text t) c caller seated fits s o spot visits =
      let u = copied_to_caller c s in
      let w = put_text place t u in
      spot_land v s o (tidied (back_to s.scopes) w) spot
      (tidied_leaves (kept s) v s w (later_leaves (kept s) v s.visits w visits (tame_leaves s w (keeps_then s u w (keeps_scopes s u.scopes (copied_frames c s)) (put_text_tame place t u)))))
  given_entered_next v place left (code_at at) c caller seated fits s o spot visits = record {
    own = kept s;
    fits = known seated;
    begun = λ h. (starts (code_of caller) (kept s) at left fits, visits);
    backs = λ d h. spot_land v s o (tidied (back_to s.scopes) d) spot (tidied_leaves (kept s) v s d h);
  }

  given_deeper_next : (v : ℕ) (place : Place) (g : Given) (seat : Seat) → SeatFits seat → ((c : CallSeat) (caller : Seat) → seat ≡ in_tag c caller → GivenFits (code_of caller) g)
      → (s : State) (o : Open) → Spot code base pc to s o sh → v ≤ s.visits → MoveFits serving code base v (weight (length code) pc o.catches) (given_deeper place g seat to s o)
  given_deeper_next v place g (in_page program params) seated fits s o spot visits = spot_on v s o spot visits
  given_deeper_next v place g (in_tag c caller) seated fits s o spot visits =
      spot_deeper v place s o _ spot visits (λ left. given_entered_next v place left g c caller seated.2 (fits c caller refl) s o spot visits)

  pub given_next : (v : ℕ) (place : Place) (g : Given) (seat : Seat) → SeatFits seat → ((c : CallSeat) (caller : Seat) → seat ≡ in_tag c caller → GivenFits (code_of caller) g)
      → (s : State) (o : Open) → Spot code base pc to s o sh → v ≤ s.visits → MoveFits serving code base v (weight (length code) pc o.catches) (given_called place g seat to s o)
  given_next v place nothing seat seated fits s o spot visits = spot_on v s o spot visits
  given_next v place (source_text t) seat seated fits s o spot visits = given_deeper_next v place (source_text t) seat seated fits s o spot visits
  given_next v place (code_at at) seat seated fits s o spot visits = given_deeper_next v place (code_at at) seat seated fits s o spot visits

-- how an included page's end is taken
included_end_leaves : (place : Place) (before : State) (v : ℕ) (d : Did) → LeavesBodies (kept before) v d → LeavesBodies (kept before) v (included_end place before d)
included_end_leaves place before v (Well u t) h = h
included_end_leaves place before v (Raised f p t) h = h
included_end_leaves place before v (Ended (redirects location) t) h = (length_last (kept before) t.writer.kept h.0, h.1)
included_end_leaves place before v (Ended (forwards path params left) t) h = h
included_end_leaves place before v (Awaits step t) h = h

-- a page's run behind its beginning
page_next : (serving : Serving) (code : List Cell) (base v w k : ℕ) (path : List ℕ) (program : Program) (params : List Param) (left : ℕ) (back : Did → Config) (d : Did)
    → serving.stored path ≡ good program → LeavesBodies k v d
    → ((r : Did) → LeavesBodies k v r → Next code base v w (back r)) → MoveFits serving code base v w (page_entered program params left back d)
page_next serving code base v w k path program params left back (Well u t) fits leaves backs = record {
  own = kept t;
  fits = stored_at path program fits;
  begun = λ h. (starts program.code (kept t) 0 left h.0.0, leaves.1);
  backs = λ r h. backs r (subst (λ m. LeavesBodies m v r) leaves.0 h);
}
page_next serving code base v w k path program params left back (Raised f place t) fits leaves backs = backs (Raised f place t) leaves
page_next serving code base v w k path program params left back (Ended leaving t) fits leaves backs = backs (Ended leaving t) leaves
page_next serving code base v w k path program params left back (Awaits step t) fits leaves backs = backs (Awaits step t) leaves

module _ (serving : Serving) (code : List Cell) (base pc to : ℕ) (sh : Shape) where
  included_next : (v : ℕ) (place : Place) (params : List Param) (left : ℕ) (path : List ℕ) (found : Stored) → serving.stored path ≡ found
      → (s : State) (o : Open) → Spot code base pc to s o sh → v ≤ s.visits → MoveFits serving code base v (weight (length code) pc o.catches) (included place params left found to s o)
  included_next v place params left path absent fits s o spot visits = spot_on serving code base pc to sh v s o spot visits
  included_next v place params left path (bad f) fits s o spot visits = spot_on serving code base pc to sh v s o spot visits
  included_next v place params left path (plain t) fits s o spot visits =
      spot_land serving code base pc to sh v s o (put_text place t s) spot (later_leaves (kept s) v s.visits (put_text place t s) visits (tame_leaves s (put_text place t s) (put_text_tame place t s)))
  included_next v place params left path (good program) fits s o spot visits =
      let t = in_scopes (with_frame s.scopes) s in
      let d = page_begun program t in
      page_next serving code base v (weight (length code) pc o.catches) (kept s) path program params left (λ r. land to (λ u. o.stack) o (included_end place s r)) d fits
      (later_leaves (kept s) v s.visits d visits (tame_leaves s d (keeps_then s t d (keeps_scopes s t.scopes (frame_more [] s)) (page_begun_keeps program t))))
      (λ r h. spot_land serving code base pc to sh v s o (included_end place s r) spot (included_end_leaves place s v r h))

  include_at_next : (v : ℕ) (place : Place) (params : List Param) (r : Result (List ℕ) BadPath)
      → (s : State) (o : Open) → Spot code base pc to s o sh → v ≤ s.visits → MoveFits serving code base v (weight (length code) pc o.catches) (include_at serving place params r to s o)
  include_at_next v place params (Err reason) s o spot visits =
      thrown_next code base v (weight (length code) pc o.catches) fault.NoSuchPage place s o sh spot.ready (omega (arith, spot.has.bodies)) visits (below (length code) pc o)
  include_at_next v place params (Ok path) s o spot visits =
      spot_deeper serving code base pc to sh v place s o _ spot visits (λ left.
      spot_then serving code base pc to sh v s o (ask_page (served_of serving) place path s) (λ paged s1. included place params left (serving.stored path) to s1 o) spot visits
      (ask_page_tame (served_of serving) place path s) (λ paged t spot2 vs. included_next v place params left path (serving.stored path) refl t o spot2 vs))

  pub include_next : (v : ℕ) (place : Place) (run : Run) (target : List ℕ) (params : List Param)
      → (s : State) (o : Open) → Spot code base pc to s o sh → v ≤ s.visits → MoveFits serving code base v (weight (length code) pc o.catches) (include_called serving place run target params to s o)
  include_next v place run target params s o spot visits = include_at_next v place (target_params run target params) (target_path run target) s o spot visits

  pub import_next : (v : ℕ) (place : Place) (run : Run) (target : List ℕ)
      → (s : State) (o : Open) → Spot code base pc to s o sh → v ≤ s.visits → MoveFits serving code base v (weight (length code) pc o.catches) (import_called serving place run target to s o)
  import_next v place run target s o spot visits =
      spot_then serving code base pc to sh v s o (local_url place target (λ s1. Well tt s1) s) (λ u s1. include_called serving place run target [] to s1 o) spot visits (local_url_tame place target s)
      (λ u t spot2 vs. include_next v place run target [] t o spot2 vs)
