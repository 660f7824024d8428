-- What calls, includes and the ends of pages do, where what runs one level deeper is known.
use Rattle.std.proofs.Common.{◌≡◌, ℕ, zero, suc, ◌+◌, ◌&&◌, Bool, true, false, List, [], ◌∷◌, ◌++◌, codes, length, Some, option_map, Result, Ok, Err, refl, ap, ◌∙◌, subst, arith, length-append}
use Rattle.std.specs.List.{list_any}
use Rattle.http_in.specs.declared.params.Param.{Param}
use Rattle.jstl_functions.specs.Texts.{contains_part}
use Rattle.page_code.specs.Calls.{body_size, fragments_size}
use Rattle.page_code.specs.Ops.{address_with}
use Rattle.page_code.specs.declared.call.CallBody.{CallBody}
use Rattle.page_code.specs.declared.call.Fragment as code
use Rattle.page_code.specs.declared.call.CallOut.TheVariants as call
use Rattle.page_code.specs.declared.call.Leave.TheVariants as leave
use Rattle.page_code.specs.declared.call.TagCall.{TagCall}
use Rattle.page_code.specs.declared.instr.Instr.TheVariants as instr
use Rattle.page_meaning.specs.Addresses.{local_url, redirect_mean, is_control}
use Rattle.page_meaning.specs.Attributes.{table_of, text_in}
use Rattle.page_meaning.specs.Bodies.{put_text}
use Rattle.page_meaning.specs.Context as meaning
use Rattle.page_meaning.specs.Context.{Served, Here, Run, Called, run_of, GivenBody, Deeper}
use Rattle.page_meaning.specs.Fragments as meaning_fragments
use Rattle.page_meaning.specs.Fragments.{fragment_mean}
use Rattle.page_meaning.specs.Includes as includes
use Rattle.page_meaning.specs.Includes.{include_mean, forward_mean, target_path, target_params, ask_page, fetched_or_fault, is_page_path, included_end}
use Rattle.page_meaning.specs.Meaning.{flush_if, nodes_mean, below}
use Rattle.page_meaning.specs.Page.{Page, TagFile, Nodes, Attributes, Body}
use Rattle.page_meaning.specs.State.{State, in_scopes}
use Rattle.page_meaning.specs.Tags as tags
use Rattle.page_meaning.specs.Tags.{first_frame}
use Rattle.page_meaning.specs.Went.{Did, Well, Raised, Ended, Awaits, redirects, then_do, tidied, either, result_of}
use Rattle.page_meaning.specs.Variables.{back_to}
use Rattle.page_meaning.specs.Work.{is_spent, fetched}
use Rattle.out_buffer.specs.Writer.{has_committed}
use Rattle.page_table.specs.Act.{act, act_at, move_of}
use Rattle.page_table.specs.Calls as calls_table
use Rattle.page_table.specs.Landing.{Config, Running, Over, then_at, land}
use Rattle.page_table.specs.Move.{Move, On, Into, then_move, one_deeper}
use Rattle.page_table.specs.Open.{Open, fresh_open}
use Rattle.page_table.specs.Operations.{levels, text_at, behind_first, params_in}
use Rattle.page_table.specs.Pages as pages_table
use Rattle.page_table.specs.Program.{Stored, Serving, served_of}
use Rattle.page_table.specs.Program as program
use Rattle.page_table.specs.Runs.{Runs, on, into}
use Rattle.page_table.specs.Seat.{CallSeat, Seat, code_of as seat_code, program_of as seat_program, page_run_of}
use Rattle.page_table.specs.Seat as seats
use Rattle.pg_text.specs.declared.place.Place.{Place}
use Rattle.pg_text.specs.declared.resolution.BadPath.{BadPath}
use Rattle.pg_value.specs.Datum.{Datum}
use Rattle.pg_value.specs.declared.fault.RunFault.{RunFault}
use Rattle.pg_value.specs.declared.fault.RunFault.TheVariants as fault
use Rattle.scopes.specs.Scopes.{Entries, with_frame, with_frame_of}
use Rattle.code_forms.specs.Codes.{body_code, body_of, fragments_code, sizes_of}
use Rattle.code_forms.specs.Forms.{own_body, own_fragment, included_page, imported_page, calls, calls_tag, forwards_to, redirects_to}
use Rattle.code_lowering.specs.Lowering.{handed_form, fragments_form}
use Rattle.code_lowering.specs.Programs.{tag_code_of, program_of, stored_of, file_place}
use Rattle.code_lowering.proofs.Goes.{Runs0, well}
use Rattle.code_lowering.proofs.Parts.{onto, onto_append, one_does, popped_is}
use Rattle.code_lowering.proofs.Passes.{body_length, fragments_length}
use Rattle.code_lowering.proofs.Reach.{Arrives, to_pc}
use Rattle.code_lowering.proofs.Seats.{Returns, Same, same_page, same_tag, run_stub, run_same, program_same, whole_returns, tag_same, body_same, fragments_same, GivenSame, gives_nothing, gives_source, gives_code, body_gives, fragment_gives}
use Rattle.code_lowering.proofs.Stands.{HasAt, has_front, has_back}
use Rattle.code_lowering.proofs.Trees.{serving_by}

module _ (served : Served) (stored : List ℕ → Stored) (agrees : (path : List ℕ) → stored path ≡ stored_of (served.pages path)) where
  abbrev serving : Serving
  serving = serving_by served stored

  -- what runs below so many levels
  abbrev pub deep : ℕ → Deeper
  deep left = below served left

  -- a run one level deeper ends as its nodes mean
  abbrev pub RunsDeep : ℕ → Type 0
  RunsDeep left =
      (nodes : Nodes) (here : Here) (seat : Seat) (at : ℕ) (s : State) → Same here seat → Returns (seat_code seat) at (run_of here).page nodes
      → Runs serving seat (Running at s (fresh_open left)) (nodes_mean served (below served left) nodes here s)

  abbrev pub Deep : ℕ → Type 0
  Deep zero = Unit {0}
  Deep (suc left) = RunsDeep left

  abbrev Lands : Seat → ℕ → State → Open → ℕ → Open → Did → Type 0
  Lands seat pc s o1 to o w = Arrives serving seat (Running pc s o1) (λ u. o.stack) to o w

  -- what a move leads to
  moved : (seat : Seat) (pc : ℕ) (s : State) (o1 o : Open) (to : ℕ) (w : Did) → move_of serving seat pc s o1 ≡ On (land to (λ u. o.stack) o w) → Lands seat pc s o1 to o w
  moved seat pc s o1 o to w e = record { by = λ d r. on seat pc s o1 (land to (λ u. o.stack) o w) d e r }

  entered : (seat : Seat) (pc : ℕ) (s : State) (o1 o : Open) (to : ℕ) (callee : Seat) (first : Config) (f : Did → Did) (w : Did)
      → move_of serving seat pc s o1 ≡ Into callee first (λ d. land to (λ u. o.stack) o (f d)) → Runs serving callee first w → Lands seat pc s o1 to o (f w)
  entered seat pc s o1 o to callee first f w e r = record { by = λ d rest. into seat pc s o1 callee first (λ d. land to (λ u. o.stack) o (f d)) w d e r rest }

  -- a call of a tag file in a frame of these entries
  call_levels : (here : Here) (seat : Seat) → Same here seat
      → (pc : ℕ) (s : State) (o1 o : Open) (to : ℕ) (place : Place) (tag : TagFile) (list : Attributes) (b : Body) (path : List ℕ) (names : List (List ℕ)) (behind : ℕ) (entries : Entries) (left : ℕ)
      → Deep left
      → HasAt (seat_code seat) behind (body_code (handed_form (run_of here).page b place tag.decl.body))
      → HasAt (seat_code seat) (behind + body_size (body_of (handed_form (run_of here).page b place tag.decl.body))) (fragments_code (fragments_form (run_of here).page list tag.decl))
      → (tc : TagCall)
      → tc ≡ record { path = path; names = names; body = body_of (handed_form (run_of here).page b place tag.decl.body); fragments = sizes_of (fragments_form (run_of here).page list tag.decl) }
      → move_of serving seat pc s o1 ≡ one_deeper place s o left
      (λ l. Into (seats.in_tag (calls_table.call_of (tag_code_of (run_of here).page tag) tc behind entries s) seat) (Running 0 (in_scopes (with_frame_of entries s.scopes) s) (fresh_open l))
      (λ d. land to (λ u. o.stack) o (calls_table.call_back (calls_table.call_of (tag_code_of (run_of here).page tag) tc behind entries s) s d)))
      → Lands seat pc s o1 to o (tags.call_run (deep left) place (tags.call_of tag list b entries s) entries here s)
  call_levels here seat same pc s o1 o to place tag list b path names behind entries zero runs hb hf tc ec e = moved seat pc s o1 o to (Raised fault.TooDeep place s) e
  call_levels here seat same pc s o1 o to place tag list b path names behind entries (suc left) runs hb hf tc ec e =
      let page = (run_of here).page in
      let handed = handed_form page b place tag.decl.body in
      let frags = fragments_form page list tag.decl in
      let this : TagCall = record { path = path; names = names; body = body_of handed; fragments = sizes_of frags } in
      let given = tags.call_of tag list b entries s in
      let seat2 = seats.in_tag (calls_table.call_of (tag_code_of page tag) this behind entries s) seat in
      let first = in_scopes (with_frame_of entries s.scopes) s in
      let inner =
      same_tag here seat given (body_of handed) (sizes_of frags) behind same (body_same (seat_code seat) page behind b tag.decl.body place hb)
      (fragments_same (seat_code seat) page tag.decl list (behind + body_size (body_of handed)) hf) in
      let ran = runs tag.nodes (meaning.in_tag (run_of here) given here) seat2 0 first inner (whole_returns page (file_place tag.path) tag.nodes) in
      let e2 =
      e ∙ ap (λ (c : TagCall). Into (seats.in_tag (calls_table.call_of (tag_code_of page tag) c behind entries s) seat) (Running 0 first (fresh_open left))
      (λ d. land to (λ u. o.stack) o (calls_table.call_back (calls_table.call_of (tag_code_of page tag) c behind entries s) s d))) ec in
      entered seat pc s o1 o to seat2 (Running 0 first (fresh_open left)) (calls_table.call_back (calls_table.call_of (tag_code_of page tag) this behind entries s) s)
      (nodes_mean served (below served left) tag.nodes (meaning.in_tag (run_of here) given here) first) e2 ran

  -- the call of a tag file with values
  pub tag_goes : (here : Here) (seat : Seat) → Same here seat → (place : Place) (path : List ℕ) (tag : TagFile) → tags.tag_at path (run_of here).page.tags ≡ Some tag
      → (list : Attributes) (b : Body) (names : List (List ℕ)) (ds : List Datum) → length ds ≡ length names
      → Runs0 serving seat deep Deep (calls_tag path names (handed_form (run_of here).page b place tag.decl.body) (fragments_form (run_of here).page list tag.decl) place)
      (onto ds []) (λ dp s. tags.call_mean dp place tag list b here (table_of names ds) s)
  tag_goes here seat same place path tag there list b names ds counted = record {
    by = λ sh o fits runs. record {
      by = λ pc s has.
          let page = (run_of here).page in
          let handed = handed_form page b place tag.decl.body in
          let frags = fragments_form page list tag.decl in
          let this : TagCall = record { path = path; names = names; body = body_of handed; fragments = sizes_of frags } in
          let bc = body_code handed in
          let fc = fragments_code frags in
          let lb = body_length handed in
          let lf = fragments_length frags in
          let to = pc + 1 + (body_size (body_of handed) + fragments_size (sizes_of frags)) in
          let len : to ≡ pc + suc (length (bc ++ fc)) = omega (arith, lb, lf, length-append bc fc) in
          let at : pc + 1 + length bc ≡ pc + 1 + body_size (body_of handed) = omega (arith, lb) in
          let hb = has_front (seat_code seat) (pc + 1) bc fc has.1 in
          let hf = subst (λ p. HasAt (seat_code seat) p fc) at (has_back (seat_code seat) (pc + 1) bc fc has.1) in
          let code_there : program.tag_at path (seat_program seat).tags ≡ Some (tag_code_of page tag) =
          ap (λ (p : program.Program). program.tag_at path p.tags) (program_same here seat same) ∙ tag_same page path page.tags ∙ ap (option_map (tag_code_of page)) there in
          let move = ap (act_at serving seat pc s (record o { stack = onto ds [] ++ o.stack })) has.0
          ∙ ap (λ v. act serving seat place pc s (record o { stack = v }) (instr.CallOut (call.Tag this))) (onto_append ds [] o.stack)
          ∙ popped_is ds o (length names) (λ es p. calls_table.tag_called place (program.tag_at path (seat_program seat).tags) this (pc + 1) es seat s p) counted
          ∙ ap (λ x. calls_table.tag_called place x this (pc + 1) ds seat s o) code_there in
          to_pc len (framed seat pc s (record o { stack = onto ds [] ++ o.stack }) o to (first_frame tag.decl (table_of names ds)) place
          (λ entries s1. calls_table.call_entered place (calls_table.call_of (tag_code_of page tag) this (pc + 1) entries s1) entries seat to s1 o)
          (λ entries s1. tags.call_run (deep o.left) place (tags.call_of tag list b entries s1) entries here s1) move
          (λ entries e. call_levels here seat same pc s (record o { stack = onto ds [] ++ o.stack }) o to place tag list b path names (pc + 1) entries o.left runs hb hf this refl e));
    };
  }
    where
      framed : (seat : Seat) (pc : ℕ) (s : State) (o1 o : Open) (to : ℕ) (r : Result Entries RunFault) (place : Place) (go : Entries → State → Move) (k : Entries → State → Did)
          → move_of serving seat pc s o1 ≡ then_move o (result_of place r s) go
          → ((entries : Entries) → move_of serving seat pc s o1 ≡ go entries s → Lands seat pc s o1 to o (k entries s)) → Lands seat pc s o1 to o (then_do (result_of place r s) k)
      framed seat pc s o1 o to (Ok entries) place go k e h = h entries e
      framed seat pc s o1 o to (Err f) place go k e h = moved seat pc s o1 o to (Raised f place s) e

  -- the seat of a call that stands for a call of the meaning
  abbrev call_seat : Here → Called → CallBody → List code.Fragment → (behind : ℕ) → CallSeat
  call_seat here given b fs behind = record { tag = tag_code_of (run_of here).page given.tag; exports = given.exports; body = b; fragments = fs; behind = behind; frame = given.frame }

  -- the body or a fragment that a call gives
  given_lands : (here : Here) (seat : Seat) → Same here seat → (given : Called) (b : CallBody) (fs : List code.Fragment) (behind : ℕ) (g : GivenBody) (g2 : seats.Given)
      → GivenSame (seat_code seat) (run_of here).page g g2
      → (pc : ℕ) (s : State) (o1 o : Open) (to : ℕ) (place : Place) (left : ℕ) → Deep left → o.left ≡ left
      → move_of serving (seats.in_tag (call_seat here given b fs behind) seat) pc s o1 ≡ calls_table.given_called place g2 (seats.in_tag (call_seat here given b fs behind) seat) to s o
      → Lands (seats.in_tag (call_seat here given b fs behind) seat) pc s o1 to o (fragment_mean (deep left) place g (meaning.in_tag (run_of here) given here) s)
  given_lands here seat same given b fs behind _ _ gives_nothing pc s o1 o to place left runs el e = moved (seats.in_tag (call_seat here given b fs behind) seat) pc s o1 o to (well s) e
  given_lands here seat same given b fs behind _ _ (gives_source t) pc s o1 o to place zero runs el e =
      moved (seats.in_tag (call_seat here given b fs behind) seat) pc s o1 o to (Raised fault.TooDeep place s)
      (e ∙ ap (λ n. one_deeper place s o n (λ l. calls_table.given_entered place l (seats.source_text t) (call_seat here given b fs behind) seat to s o)) el)
  given_lands here seat same given b fs behind _ _ (gives_source t) pc s o1 o to place (suc left) runs el e =
      moved (seats.in_tag (call_seat here given b fs behind) seat) pc s o1 o to (fragment_mean (deep (suc left)) place (meaning.source_text t) (meaning.in_tag (run_of here) given here) s)
      (e ∙ ap (λ n. one_deeper place s o n (λ l. calls_table.given_entered place l (seats.source_text t) (call_seat here given b fs behind) seat to s o)) el)
  given_lands here seat same given b fs behind _ _ (gives_code nodes at h) pc s o1 o to place zero runs el e =
      moved (seats.in_tag (call_seat here given b fs behind) seat) pc s o1 o to (Raised fault.TooDeep place s)
      (e ∙ ap (λ n. one_deeper place s o n (λ l. calls_table.given_entered place l (seats.code_at at) (call_seat here given b fs behind) seat to s o)) el)
  given_lands here seat same given b fs behind _ _ (gives_code nodes at h) pc s o1 o to place (suc left) runs el e =
      let cs = call_seat here given b fs behind in
      let start = calls_table.in_callers_frame cs (calls_table.copied_to_caller cs s) in
      entered (seats.in_tag cs seat) pc s o1 o to seat (Running at start (fresh_open left)) (tidied (back_to s.scopes)) (nodes_mean served (below served left) nodes here start)
      (e ∙ ap (λ n. one_deeper place s o n (λ l. calls_table.given_entered place l (seats.code_at at) cs seat to s o)) el) (runs nodes here seat at start same h)

  body_lands : (here : Here) (seat : Seat) → Same here seat → (pc : ℕ) (s : State) (o1 o : Open) (to : ℕ) (place : Place) → Deep o.left
      → move_of serving seat pc s o1 ≡ calls_table.given_called place (seats.body_in seat) seat to s o
      → Lands seat pc s o1 to o (fragment_mean (deep o.left) place (meaning_fragments.body_in here) here s)
  body_lands _ _ (same_page run) pc s o1 o to place runs e = moved _ pc s o1 o to (well s) e
  body_lands _ _ (same_tag here seat given b fs behind same bs fss) pc s o1 o to place runs e =
      given_lands here seat same given b fs behind given.body (seats.body_given b behind) (body_gives (seat_code seat) (run_of here).page behind given.body b bs) pc s o1 o to place o.left runs refl e

  fragment_lands : (here : Here) (seat : Seat) → Same here seat → (name : List ℕ) (pc : ℕ) (s : State) (o1 o : Open) (to : ℕ) (place : Place) → Deep o.left
      → move_of serving seat pc s o1 ≡ calls_table.given_called place (seats.fragment_in name seat) seat to s o
      → Lands seat pc s o1 to o (fragment_mean (deep o.left) place (meaning_fragments.fragment_in name here) here s)
  fragment_lands _ _ (same_page run) name pc s o1 o to place runs e = moved _ pc s o1 o to (well s) e
  fragment_lands _ _ (same_tag here seat given b fs behind same bs fss) name pc s o1 o to place runs e =
      given_lands here seat same given b fs behind (meaning_fragments.fragment_named name given.fragments) (seats.fragment_given name b fs behind)
      (fragment_gives (seat_code seat) (run_of here).page name behind b given.fragments fs fss) pc s o1 o to place o.left runs refl e

  pub own_body_goes : (here : Here) (seat : Seat) → Same here seat → (place : Place)
      → Runs0 serving seat deep Deep (calls own_body place) [] (λ dp s. fragment_mean dp place (meaning_fragments.body_in here) here s)
  own_body_goes here seat same place = record { by = λ sh o fits runs. one_does _ (λ pc s has. body_lands here seat same pc s o o (pc + 1) place runs (ap (act_at serving seat pc s o) has)) }

  pub own_fragment_goes : (here : Here) (seat : Seat) → Same here seat → (name : List ℕ) (place : Place)
      → Runs0 serving seat deep Deep (calls (own_fragment name) place) [] (λ dp s. fragment_mean dp place (meaning_fragments.fragment_in name here) here s)
  own_fragment_goes here seat same name place =
      record { by = λ sh o fits runs. one_does _ (λ pc s has. fragment_lands here seat same name pc s o o (pc + 1) place runs (ap (act_at serving seat pc s o) has)) }

  -- the run of an included page behind its beginning
  page_lands : (seat : Seat) (pc : ℕ) (s0 s : State) (o1 o : Open) (to : ℕ) (place : Place) (page : Page) (params : List Param) (left : ℕ) → RunsDeep left → (w : Did)
      → move_of serving seat pc s0 o1 ≡ pages_table.page_entered (program_of page) params left (λ d. land to (λ u. o.stack) o (included_end place s d)) w
      → Lands seat pc s0 o1 to o (included_end place s (then_do w (λ u s1. nodes_mean served (below served left) page.nodes (meaning.in_page (record { page = page; params = params })) s1)))
  page_lands seat pc s0 s o1 o to place page params left runs (Well u s1) e =
      entered seat pc s0 o1 o to (seats.in_page (program_of page) params) (Running 0 s1 (fresh_open left)) (included_end place s)
      (nodes_mean served (below served left) page.nodes (meaning.in_page (record { page = page; params = params })) s1) e
      (runs page.nodes (meaning.in_page (record { page = page; params = params })) (seats.in_page (program_of page) params) 0 s1
      (same_page (record { page = page; params = params })) (whole_returns page (file_place page.path) page.nodes))
  page_lands seat pc s0 s o1 o to place page params left runs (Raised f p s1) e = moved seat pc s0 o1 o to (included_end place s (Raised f p s1)) e
  page_lands seat pc s0 s o1 o to place page params left runs (Ended l s1) e = moved seat pc s0 o1 o to (included_end place s (Ended l s1)) e
  page_lands seat pc s0 s o1 o to place page params left runs (Awaits x s1) e = moved seat pc s0 o1 o to (included_end place s (Awaits x s1)) e

  -- what stands at a path, included
  paged_lands : (seat : Seat) (pc : ℕ) (s0 s : State) (o1 o : Open) (to : ℕ) (place : Place) (path : List ℕ) (params : List Param) (left : ℕ) → RunsDeep left → (b : Bool) (paged : meaning.Paged)
      → move_of serving seat pc s0 o1 ≡ then_move o (either b (Raised fault.AppTooMuch place) (fetched_or_fault place path (program.paged_of (stored_of paged))) s)
      (λ p s1. pages_table.included place params left (stored_of paged) to s1 o)
      → Lands seat pc s0 o1 to o (then_do (either b (Raised fault.AppTooMuch place) (fetched_or_fault place path paged) s)
      (λ p s1. includes.included (nodes_mean served (below served left)) place params p s1))
  paged_lands seat pc s0 s o1 o to place path params left runs true paged e = moved seat pc s0 o1 o to (Raised fault.AppTooMuch place s) e
  paged_lands seat pc s0 s o1 o to place path params left runs false meaning.absent e = moved seat pc s0 o1 o to (Raised fault.NoSuchPage place s) e
  paged_lands seat pc s0 s o1 o to place path params left runs false (meaning.plain t) e = moved seat pc s0 o1 o to (put_text place t s) e
  paged_lands seat pc s0 s o1 o to place path params left runs false (meaning.bad f) e = moved seat pc s0 o1 o to (Raised fault.BadPage place (fetched path s)) e
  paged_lands seat pc s0 s o1 o to place path params left runs false (meaning.good page) e =
      let s1 = fetched path s in
      page_lands seat pc s0 s1 o1 o to place page params left runs (pages_table.page_begun (program_of page) (in_scopes (with_frame s1.scopes) s1)) e

  include_levels : (seat : Seat) (pc : ℕ) (s0 s : State) (o1 o : Open) (to : ℕ) (place : Place) (path : List ℕ) (params : List Param) (left : ℕ) → Deep left
      → move_of serving seat pc s0 o1 ≡ one_deeper place s o left (λ l. then_move o (ask_page (served_of serving) place path s) (λ p s1. pages_table.included place params l (stored path) to s1 o))
      → Lands seat pc s0 o1 to o (includes.include_path served (deep left) place params path s)
  include_levels seat pc s0 s o1 o to place path params zero runs e = moved seat pc s0 o1 o to (Raised fault.TooDeep place s) e
  include_levels seat pc s0 s o1 o to place path params (suc left) runs e =
      let b = is_page_path path && is_spent s in
      paged_lands seat pc s0 s o1 o to place path params left runs b (served.pages path)
      (e ∙ ap (λ x. then_move o (either b (Raised fault.AppTooMuch place) (fetched_or_fault place path (program.paged_of x)) s)
      (λ p s1. pages_table.included place params left x to s1 o)) (agrees path))

  -- an include of a target
  include_lands : (here : Here) (seat : Seat) → Same here seat → (pc : ℕ) (s0 s : State) (o1 o : Open) (to : ℕ) (place : Place) (target : List ℕ) (params : List Param) → Deep o.left
      → move_of serving seat pc s0 o1 ≡ pages_table.include_called serving place (page_run_of seat) target params to s o
      → Lands seat pc s0 o1 to o (include_mean served (deep o.left) place (run_of here) target params s)
  include_lands here seat same pc s0 s o1 o to place target params runs e =
      resolved (target_path (run_of here) target) (e ∙ ap (λ r. pages_table.include_called serving place r target params to s o) (run_same here seat same))
    where
      resolved : (r : Result (List ℕ) BadPath) → move_of serving seat pc s0 o1 ≡ pages_table.include_at serving place (target_params (run_of here) target params) r to s o
          → Lands seat pc s0 o1 to o (includes.include_at served (deep o.left) place (target_params (run_of here) target params) r s)
      resolved (Ok path) e = include_levels seat pc s0 s o1 o to place path (target_params (run_of here) target params) o.left runs e
      resolved (Err reason) e = moved seat pc s0 o1 o to (Raised fault.NoSuchPage place s) e

  pub include_goes : (here : Here) (seat : Seat) → Same here seat → (place : Place) (flush : Bool) (n : ℕ) (ds : List Datum) → length ds ≡ address_with n
      → Runs0 serving seat deep Deep (calls (included_page flush n) place) (onto ds [])
      (λ dp s. include_mean served dp place (run_of here) (text_at 0 ds) (params_in (behind_first ds)) (flush_if flush s))
  include_goes here seat same place flush n ds counted = record {
    by = λ sh o fits runs. one_does _ (λ pc s has. include_lands here seat same pc s (flush_if flush s) (record o { stack = onto ds [] ++ o.stack }) o (pc + 1) place (text_at 0 ds)
        (params_in (behind_first ds)) runs
        (ap (act_at serving seat pc s (record o { stack = onto ds [] ++ o.stack })) has
        ∙ ap (λ v. act serving seat place pc s (record o { stack = v }) (instr.CallOut (call.Include flush n))) (onto_append ds [] o.stack)
        ∙ popped_is ds o (address_with n) (λ es p. pages_table.include_called serving place (page_run_of seat) (text_at 0 es) (params_in (behind_first es)) (pc + 1) (flush_if flush s) p) counted));
  }

  -- an import
  pub import_goes : (here : Here) (seat : Seat) → Same here seat → (place : Place) (d : Datum)
      → Runs0 serving seat deep Deep (calls imported_page place) (d ∷ []) (λ dp s. local_url place (text_in (Some d)) (include_mean served dp place (run_of here) (text_in (Some d)) []) s)
  import_goes here seat same place d = record {
    by = λ sh o fits runs. one_does _ (λ pc s has. local pc s o (record o { stack = d ∷ o.stack }) (contains_part (codes "://") (text_in (Some d))) runs
        (ap (act_at serving seat pc s (record o { stack = d ∷ o.stack })) has));
  }
    where
      local : (pc : ℕ) (s : State) (o o1 : Open) (b : Bool) → Deep o.left
          → move_of serving seat pc s o1 ≡ then_move o (either b (Raised fault.BadUrl place) (λ s1. well s1) s)
          (λ u s1. pages_table.include_called serving place (page_run_of seat) (text_in (Some d)) [] (pc + 1) s1 o)
          → Lands seat pc s o1 (pc + 1) o (either b (Raised fault.BadUrl place) (include_mean served (deep o.left) place (run_of here) (text_in (Some d)) []) s)
      local pc s o o1 true runs e = moved seat pc s o1 o (pc + 1) (Raised fault.BadUrl place s) e
      local pc s o o1 false runs e = include_lands here seat same pc s s o1 o (pc + 1) place (text_in (Some d)) [] runs e

  -- a part that never goes on
  abbrev NeverWell : Did → Type 0
  NeverWell (Well u s) = ⊥
  NeverWell (Raised f place s) = Unit {0}
  NeverWell (Ended l s) = Unit {0}
  NeverWell (Awaits x s) = Unit {0}

  left_lands : (seat : Seat) (pc : ℕ) (s : State) (o1 o : Open) (to : ℕ) (w : Did) → NeverWell w → move_of serving seat pc s o1 ≡ On (then_at o w (λ u s1. Over (Well u s1)))
      → Lands seat pc s o1 to o w
  left_lands seat pc s o1 o to (Well u s1) h e = absurd h
  left_lands seat pc s o1 o to (Raised f place s1) h e = moved seat pc s o1 o to (Raised f place s1) e
  left_lands seat pc s o1 o to (Ended l s1) h e = moved seat pc s o1 o to (Ended l s1) e
  left_lands seat pc s o1 o to (Awaits x s1) h e = moved seat pc s o1 o to (Awaits x s1) e

  redirect_never : (place : Place) (url : List ℕ) (s : State) → NeverWell (redirect_mean place url s)
  redirect_never place url s = go (has_committed s.writer) (list_any is_control url)
    where
      go : (a b : Bool) → NeverWell (either a (Raised fault.Committed place) (either b (Raised fault.BadUrl place) (Ended (redirects url))) s)
      go true b = tt
      go false true = tt
      go false false = tt

  pub redirect_goes : (seat : Seat) (place : Place) (d : Datum) → Runs0 serving seat deep Deep (redirects_to place) (d ∷ []) (λ dp s. redirect_mean place (text_in (Some d)) s)
  redirect_goes seat place d = record {
    by = λ sh o fits runs. one_does _ (λ pc s has. left_lands seat pc s (record o { stack = d ∷ o.stack }) o (pc + 1) (redirect_mean place (text_in (Some d)) s)
        (redirect_never place (text_in (Some d)) s) (ap (act_at serving seat pc s (record o { stack = d ∷ o.stack })) has));
  }

  -- a forward, with what the table knows of the levels and of the tree
  forward_path_same : (place : Place) (path : List ℕ) (params : List Param) (left : ℕ) (s : State)
      → (includes.forward_path (served_of serving) (levels left) place params path s ≡ includes.forward_path served (deep left) place params path s)
      × NeverWell (includes.forward_path served (deep left) place params path s)
  forward_path_same place path params zero s = (refl, tt)
  forward_path_same place path params (suc left) s =
      let b = is_page_path path && is_spent s in
      let k : meaning.Paged → State → Did = λ p s1. includes.left_for path params left s1 in
      let g = go left b (served.pages path) in
      (ap (λ x. then_do (either b (Raised fault.AppTooMuch place) (fetched_or_fault place path (program.paged_of x)) s) k) (agrees path) ∙ g.0, g.1)
    where
      go : (left : ℕ) (b : Bool) (paged : meaning.Paged)
          → (then_do (either b (Raised fault.AppTooMuch place) (fetched_or_fault place path (program.paged_of (stored_of paged))) s)
          (λ p s1. includes.left_for path params left s1) ≡ then_do (either b (Raised fault.AppTooMuch place) (fetched_or_fault place path paged) s)
          (λ p s1. includes.left_for path params left s1))
          × NeverWell (then_do (either b (Raised fault.AppTooMuch place) (fetched_or_fault place path paged) s) (λ p s1. includes.left_for path params left s1))
      go left true paged = (refl, tt)
      go left false meaning.absent = (refl, tt)
      go left false (meaning.plain t) = (refl, tt)
      go left false (meaning.bad f) = (refl, tt)
      go left false (meaning.good page) = (refl, tt)

  forward_same : (place : Place) (run : Run) (target : List ℕ) (params : List Param) (left : ℕ) (s : State)
      → (forward_mean (served_of serving) (levels left) place (run_stub run) target params s ≡ forward_mean served (deep left) place run target params s) × NeverWell
      (forward_mean served (deep left) place run target params s)
  forward_same place run target params left s = go (has_committed s.writer) (target_path run target)
    where
      go : (b : Bool) (r : Result (List ℕ) BadPath)
          → (either b (Raised fault.Committed place) (includes.forward_at (served_of serving) (levels left) place (target_params run target params) r) s ≡ either b
          (Raised fault.Committed place) (includes.forward_at served (deep left) place (target_params run target params) r) s)
          × NeverWell (either b (Raised fault.Committed place) (includes.forward_at served (deep left) place (target_params run target params) r) s)
      go true r = (refl, tt)
      go false (Err reason) = (refl, tt)
      go false (Ok path) = forward_path_same place path (target_params run target params) left s

  pub forward_goes : (here : Here) (seat : Seat) → Same here seat → (place : Place) (n : ℕ) (ds : List Datum) → length ds ≡ address_with n
      → Runs0 serving seat deep Deep (forwards_to n place) (onto ds []) (λ dp s. forward_mean served dp place (run_of here) (text_at 0 ds) (params_in (behind_first ds)) s)
  forward_goes here seat same place n ds counted = record {
    by = λ sh o fits runs. one_does _ (λ pc s has.
        let both = forward_same place (run_of here) (text_at 0 ds) (params_in (behind_first ds)) o.left s in
        let over : Did → Move = λ w. On (then_at o w (λ u s1. Over (Well u s1))) in
        left_lands seat pc s (record o { stack = onto ds [] ++ o.stack }) o (pc + 1) (forward_mean served (deep o.left) place (run_of here) (text_at 0 ds) (params_in (behind_first ds)) s) both.1
        (ap (act_at serving seat pc s (record o { stack = onto ds [] ++ o.stack })) has
        ∙ ap (λ v. act serving seat place pc s (record o { stack = v }) (instr.Leave (leave.Forward n))) (onto_append ds [] o.stack)
        ∙ popped_is ds o (address_with n) (λ es p. On
        (then_at p (forward_mean (served_of serving) (levels o.left) place (page_run_of seat) (text_at 0 es) (params_in (behind_first es)) s) (λ u s1. Over (Well u s1)))) counted
        ∙ ap (λ r. over (forward_mean (served_of serving) (levels o.left) place r (text_at 0 ds) (params_in (behind_first ds)) s)) (run_same here seat same) ∙ ap over both.0));
  }
