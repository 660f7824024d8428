-- What a request of a preview connection comes to.
use Rattle.std.proofs.Common.{◌≡◌, ◌⊎◌, ℕ, ◌+◌, Bool, true, false, List, [], Option, Some, None, codes, refl, sym, ap, subst, ◌∙◌, inl, inr}
use Rattle.std.specs.Bool.{MatchBool}
use Rattle.std.specs.Prelude.{if◌then◌else◌, nat_lt}
use Rattle.conversation.proofs.ServedLemmas.{served_map, told_served}
use Rattle.conversation.specs.Told.{IsTold}
use Rattle.conversation.specs.Exchange.{Exchange}
use Rattle.conversation.specs.declared.desk.Outcome.{Outcome}
use Rattle.edges.specs.declared.acted.Acted.TheVariants.{Did, Refused}
use Rattle.http_in.specs.declared.request.Request.{Request}
use Rattle.http_out.specs.Full.{full_line}
use Rattle.http_out.specs.Response.{plain}
use Rattle.http_out.specs.declared.status.Status.TheVariants as status
use Rattle.http_out.specs.Methods.{shows_body, takes_method}
use Rattle.pg_value.specs.Datum.{Datum}
use Rattle.preview_words.specs.Laws.{AreRunnable, IsRunnable}
use Rattle.preview_words.specs.Own.{Picture, picture_in, picture_of}
use Rattle.preview_words.specs.Previewed.{IsDropped, IsEdited, IsNotTaken, IsPreviewed, IsRefused, IsShown, IsUnasked, IsUntold, Leaves, PreviewStand, Previews, ServedEdited, ServedPreview, preview_stand}
use Rattle.preview_words.specs.Shown.{Hides, ServedShown, Shows}
use Rattle.site_words.specs.Answers.{IsFull, Shows as IsShowing}
use Rattle.site_words.specs.Calls.{Acts, Stays}
use Rattle.site_words.specs.Law.{Legal}
use Rattle.site_words.specs.Opening.{is_sound}
use Rattle.site_words.specs.State.{State, after as site_after}
use Rattle.site_words.specs.Runs.{promised as promises}
use Rattle.site_words.specs.Step.{reply_to, step, stepped}
use Rattle.site_words.specs.Trees.{Needs}
use Rattle.site_words.specs.Weights.{op_weight}
use Rattle.site_words.specs.declared.port.Snapped.{Snapped}
use Rattle.site_words.specs.declared.words.Entry.{Entry}
use Rattle.site_words.specs.declared.words.Op.TheVariants as op
use Rattle.site_words.specs.declared.words.Opening.{Opening}
use Rattle.site_words.specs.declared.words.Refusal.{Refusal}
use Rattle.site_words.specs.declared.words.Refusal.TheVariants as refusal_is
use Rattle.site_words.specs.declared.words.Reply.{Reply}
use Rattle.site_words.specs.declared.words.Reply.TheVariants as reply
use Rattle.source_tree.specs.declared.edit.Edit.{Edit}
use Rattle.source_tree.specs.declared.file.File.{File}
use Rattle.talk_words.specs.Said.{is_editors}

-- a port's picture is one of the site
same_picture : (s : State) (snapped : Snapped) → IsShowing s (Did snapped) → picture_in snapped ≡ picture_of s snapped.version snapped.session
same_picture s snapped shows =
    let one : picture_in snapped ≡ record { version = snapped.version; tree = s.tree; app = snapped.app; session = snapped.session; attrs = snapped.attrs } =
    ap (λ (tree : List File). record { version = snapped.version; tree = tree; app = snapped.app; session = snapped.session; attrs = snapped.attrs }) shows.0 in
    let two : picture_in snapped ≡ record { version = snapped.version; tree = s.tree; app = s.app; session = snapped.session; attrs = snapped.attrs } =
    one ∙ ap (λ (app : List (List ℕ × Datum)). record { version = snapped.version; tree = s.tree; app = app; session = snapped.session; attrs = snapped.attrs }) shows.1 in
    two ∙ ap (λ (attrs : List (List ℕ × Datum)). record { version = snapped.version; tree = s.tree; app = s.app; session = snapped.session; attrs = attrs }) shows.2

-- the site on which it is previewed may open
pub runnable_by : (needs : Needs) (x : Opening) (seen : List Entry) (edits : List Edit) (snapped : Snapped) → AreRunnable → is_sound x ≡ true → Legal needs x seen → IsShowing (site_after needs x seen) (Did snapped)
    → snapped.version ≡ (site_after needs x seen).version → IsRunnable edits (picture_in snapped)
runnable_by needs x seen edits snapped law sound legal shows latest =
    let s : State = site_after needs x seen in
    subst (IsRunnable edits) (sym (same_picture s snapped shows ∙ ap (λ version. picture_of s version snapped.session) latest)) (law needs x seen edits snapped.session sound legal)

-- where a picture is refused, the journal is full, and what it weighs and has promised is told
pub record IsFullBy (refusal : Refusal) : Type 0 where
  pub weight : ℕ
  pub promised : ℕ
  pub is : refusal ≡ refusal_is.JournalFull weight promised

pub refused_full : (needs : Needs) (x : Opening) (pass : ℕ) (front : List Entry) (cookie : List ℕ) (refusal : Refusal) → step needs x (site_after needs x front) pass (op.Snapshot cookie) ≡ Refused refusal → IsFullBy refusal
refused_full needs x pass front cookie refusal refused =
    let s : State = site_after needs x front in
    go s.weight (promises s.runs) (reply_to needs x s pass (op.Snapshot cookie)) (nat_lt x.limit (s.weight + promises s.runs + op_weight (op.Snapshot cookie))) refused
  where
    go : (weight promised : ℕ) (r : Reply) (b : Bool) → stepped (if b then Some (refusal_is.JournalFull weight promised) else None) r ≡ Refused refusal → IsFullBy refusal
    go weight promised r true is = let same : refusal ≡ refusal_is.JournalFull weight promised = cc in record { weight = weight; promised = promised; is = same }
    go weight promised r false is = absurd (cc)

pub is_full : (refusal : Refusal) → IsFullBy refusal → IsFull refusal
is_full refusal by = subst IsFull (sym by.is) tt

-- what a request is answered that goes to pages
pub previews_pages : (needs : Needs) (x : Opening) (pass : ℕ) (request : Request) (close : Bool) (old : PreviewStand) (text : List ℕ) (broken : Bool) (new : PreviewStand) → is_editors request.target ≡ false → takes_method request.method ≡ true
    → IsShown needs x pass request close old text broken new ⊎ IsRefused needs x pass request close old text broken new → Previews needs x pass request close old text broken new
previews_pages needs x pass request close old text broken new pages taken is =
    subst (λ test. MatchBool test (IsEdited request close old text broken new) (MatchBool (takes_method request.method) (IsShown needs x pass request close old text broken new ⊎ IsRefused needs x pass request close old text broken new) (IsNotTaken request close old text broken new))) (sym pages)
    (subst (λ test. MatchBool test (IsShown needs x pass request close old text broken new ⊎ IsRefused needs x pass request close old text broken new) (IsNotTaken request close old text broken new)) (sym taken) is)

-- what is left of it
pub leaves_pages : (needs : Needs) (x : Opening) (pass : ℕ) (request : Request) (close : Bool) (old : PreviewStand) (text : List ℕ) (new : PreviewStand) → is_editors request.target ≡ false → takes_method request.method ≡ true
    → IsUnasked needs x pass old text new ⊎ IsDropped needs x pass request close old text new → Leaves needs x pass request close old text new
leaves_pages needs x pass request close old text new pages taken is =
    subst (λ test. MatchBool test (IsUntold request old text new) (MatchBool (takes_method request.method) (IsUnasked needs x pass old text new ⊎ IsDropped needs x pass request close old text new) ((new ≡ old) × (text ≡ [])))) (sym pages)
    (subst (λ test. MatchBool test (IsUnasked needs x pass old text new ⊎ IsDropped needs x pass request close old text new) ((new ≡ old) × (text ≡ []))) (sym taken) is)

module _ (needs : Needs) (x : Opening) (pass : ℕ) (edits : List Edit) (close : Bool) (request : Request) (seen seen' : List Entry) (before after : ℕ) (taken now : Option (List ℕ)) (answer : Outcome) (pages : is_editors request.target ≡ false)
    (takes : takes_method request.method ≡ true) where
  -- a picture was shown with the draft
  pub shown_served : (steps later : ℕ) (snapped : Snapped) → Acts needs x pass seen seen' (op.Snapshot request.cookie) (reply.Snapped snapped.version snapped.session) → IsShowing (site_after needs x seen') (Did snapped)
      → ServedShown needs edits (picture_in snapped) close request steps later before after taken now answer → ServedPreview needs x pass close request (preview_stand edits seen steps) (preview_stand edits seen' later) before after taken now answer
  shown_served steps later snapped acts shows served =
      let old : PreviewStand = preview_stand edits seen steps in
      let new : PreviewStand = preview_stand edits seen' later in
      let picture : Picture = picture_of (site_after needs x seen') snapped.version snapped.session in
      let same : picture_in snapped ≡ picture = same_picture (site_after needs x seen') snapped shows in
      served_map (λ close steps (e : Exchange) later. Shows needs edits (picture_in snapped) e.request close steps e.text e.broken later) (λ close steps request text later. Hides needs edits (picture_in snapped) request close steps text later)
      (IsPreviewed needs x pass) (λ close old request text new. Leaves needs x pass request close old text new) close request request steps later old new before after taken now answer
      (λ text broken is. previews_pages needs x pass request close old text broken new pages takes
      (inl (record { picture = record { version = snapped.version; session = snapped.session; entry = acts }; edits = refl; shows = subst (λ (p : Picture). Shows needs edits p request close steps text broken later) same is })))
      (λ text is. leaves_pages needs x pass request close old text new pages takes
      (inr (record { picture = record { version = snapped.version; session = snapped.session; entry = acts }; edits = refl; hides = subst (λ (p : Picture). Hides needs edits p request close steps text later) same is })))
      served

  -- no picture was taken, and nothing was written
  pub unasked : (steps : ℕ) → Stays needs x pass seen seen' → Leaves needs x pass request close (preview_stand edits seen steps) [] (preview_stand edits seen' steps)
  unasked steps stays =
      leaves_pages needs x pass request close (preview_stand edits seen steps) [] (preview_stand edits seen' steps) pages takes (inl (record { stays = stays; edits = refl; read = refl; text_is = refl }))

  -- the picture was refused, and that was told
  pub refused_served : (steps weight promised : ℕ) (refusal : Refusal) → Stays needs x pass seen seen' → step needs x (site_after needs x seen') pass (op.Snapshot request.cookie) ≡ Refused refusal
      → refusal ≡ refusal_is.JournalFull weight promised → IsTold (plain status.ServiceUnavailable close (full_line weight promised) (shows_body request.method)) taken now answer
      → ServedPreview needs x pass close request (preview_stand edits seen steps) (preview_stand edits seen' steps) before after taken now answer
  refused_served steps weight promised refusal stays refused is told =
      let old : PreviewStand = preview_stand edits seen steps in
      let new : PreviewStand = preview_stand edits seen' steps in
      let text : List ℕ = plain status.ServiceUnavailable close (full_line weight promised) (shows_body request.method) in
      told_served (IsPreviewed needs x pass) (λ close old request text new. Leaves needs x pass request close old text new) close request old new text before after taken now answer
      (previews_pages needs x pass request close old text false new pages takes
      (inr (record {
        stays = stays;
        edits = refl;
        weight = weight;
        promised = promised;
        refused = refused ∙ ap Refused is;
        told = record { read = refl; text_is = refl; broken_is = refl };
      })))
      (unasked steps stays) told

module _ (needs : Needs) (x : Opening) (pass : ℕ) (close : Bool) (request : Request) (old new : PreviewStand) (before after : ℕ) (taken now : Option (List ℕ)) (answer : Outcome) where
  -- an editor's message was taken
  pub edited_served : is_editors request.target ≡ true → ServedEdited close request old new before after taken now answer → ServedPreview needs x pass close request old new before after taken now answer
  edited_served edits served =
      served_map (λ close old (e : Exchange) new. IsEdited e.request close old e.text e.broken new) (λ close old request text new. IsUntold request old text new)
      (IsPreviewed needs x pass) (λ close old request text new. Leaves needs x pass request close old text new) close request request old new old new before after taken now answer
      (λ text broken is. subst (λ test. MatchBool test (IsEdited request close old text broken new) (MatchBool (takes_method request.method) (IsShown needs x pass request close old text broken new ⊎ IsRefused needs x pass request close old text broken new) (IsNotTaken request close old text broken new))) (sym edits) is)
      (λ text is. subst (λ test. MatchBool test (IsUntold request old text new) (MatchBool (takes_method request.method) (IsUnasked needs x pass old text new ⊎ IsDropped needs x pass request close old text new) ((new ≡ old) × (text ≡ [])))) (sym edits) is)
      served

-- memory ran out while it was told that the request has another method
leaves_other : (needs : Needs) (x : Opening) (pass : ℕ) (request : Request) (close : Bool) (at : PreviewStand) (text : List ℕ) → is_editors request.target ≡ false → takes_method request.method ≡ false → text ≡ []
    → Leaves needs x pass request close at text at
leaves_other needs x pass request close at text pages other none =
    subst (λ test. MatchBool test (IsUntold request at text at) (MatchBool (takes_method request.method) (IsUnasked needs x pass at text at ⊎ IsDropped needs x pass request close at text at) ((at ≡ at) × (text ≡ [])))) (sym pages)
    (subst (λ test. MatchBool test (IsUnasked needs x pass at text at ⊎ IsDropped needs x pass request close at text at) ((at ≡ at) × (text ≡ []))) (sym other) (refl, none))

-- the request has another method, and that was told
pub method_served : (needs : Needs) (x : Opening) (pass : ℕ) (close : Bool) (request : Request) (at : PreviewStand) (before after : ℕ) (taken now : Option (List ℕ)) (answer : Outcome) → is_editors request.target ≡ false
    → takes_method request.method ≡ false → IsTold (plain status.MethodNotAllowed close (codes "MethodNotAllowed") (shows_body request.method)) taken now answer → ServedPreview needs x pass close request at at before after taken now answer
method_served needs x pass close request at before after taken now answer pages other told =
    let text : List ℕ = plain status.MethodNotAllowed close (codes "MethodNotAllowed") (shows_body request.method) in
    told_served (IsPreviewed needs x pass) (λ close old request text new. Leaves needs x pass request close old text new) close request at at text before after taken now answer
    (subst (λ test. MatchBool test (IsEdited request close at text false at) (MatchBool (takes_method request.method) (IsShown needs x pass request close at text false at ⊎ IsRefused needs x pass request close at text false at) (IsNotTaken request close at text false at))) (sym pages)
    (subst (λ test. MatchBool test (IsShown needs x pass request close at text false at ⊎ IsRefused needs x pass request close at text false at) (IsNotTaken request close at text false at)) (sym other) (record { same = refl; text_is = refl; broken_is = refl })))
    (leaves_other needs x pass request close at [] pages other refl) told
