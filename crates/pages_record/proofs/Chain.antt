-- Connections that are recorded one after the other.
use Rattle.std.proofs.Common.{◌≡◌, ◌≤◌, ◌<◌, ℕ, false, List, [], ◌∷◌, ◌++◌, Option, Some, None, refl, sym, ap, subst, ◌∙◌, append_assoc, append-nil, arith, length}
use Rattle.std.specs.Io.KnownBytes.{Appends}
use Rattle.edges.proofs.ToldBytes.{appends_both, appends_none}
use Rattle.edges.specs.Clock.{Moments}
use Rattle.edges.specs.Faults.{Rose}
use Rattle.page_answers.specs.Standing.{standing_of}
use Rattle.compiled_pages.specs.Pages.{needs_at}
use Rattle.conversation.specs.Conversation.{Tells}
use Rattle.conversation.specs.declared.ended.Ended.{Ended}
use Rattle.connection_list.proofs.Lists.{begins_next, last_behind}
use Rattle.connection_list.specs.List.{BeginsWith, IsListOf, first_connection}
use Rattle.pages_record.specs.Once.{BreaksOffIn, Ends, GoesOn}
use Rattle.pages_record.specs.Recorded.{AreCutShort, AreRecorded, Comes, ComesOn, IsNotListed, IsRecorded, IsTalked, Records, end_number, most_bytes}
use Rattle.pages_record.specs.declared.recorded.Recorded.{Recorded}
use Rattle.pages_record.specs.declared.recorded.Recorded.TheVariants.{Done, NotListed, ReadFault, WriteFault, NoMemory}
use Rattle.pages_talk.specs.Play.{only_connection}
use Rattle.pass_course.specs.Course.{IsIdle}
use Rattle.rollover.specs.Roll.{IsCutShort, IsRolled, IsUnrolled, goes_on_as, is_spent}
use Rattle.site_core.specs.Lived.{Lived}
use Rattle.site_journal.specs.Journal.{journal, rolled}
use Rattle.site_journal.specs.Reading.{HasCode}
use Rattle.site_journal.specs.declared.talk.Talk.{Talk}
use Rattle.site_words.specs.Invariants.{AllRest}
use Rattle.site_words.specs.Law.{Legal, own, run_of}
use Rattle.site_words.specs.declared.words.Entry.{Entry}
use Rattle.site_words.specs.declared.words.Opening.{Opening}
use Rattle.source_tree.specs.declared.edit.Edit.{Edit}
use Rattle.talk_words.specs.Connection.{stand_of}
use Rattle.talk_words.specs.Grown.{HasGrown}
use Rattle.talk_words.specs.Said.{IsLeft, IsSaid}
use Rattle.whole_input.specs.Come.{HasCome}

-- no request is under way where the only pass has none
pub alone_rests : (x : Opening) (history : List Entry) → x.passes ≡ 1 → run_of (own 0 history) ≡ None → AllRest x history
alone_rests x history one none k within = let first : 0 ≡ k = omega (arith, one, within) in subst (λ j. run_of (own j history) ≡ None) first none

-- nor before the first entry
pub rests_at_start : (x : Opening) (history : List Entry) → history ≡ [] → AllRest x history
rests_at_start x history empty k within = subst (λ h. run_of (own k h) ≡ None) (sym empty) refl

pub idle_before : (site before : Lived) → before ≡ site → site.opening.passes ≡ 1 → site.history ≡ [] → IsIdle before.opening 0 before.history
idle_before site before same one empty = subst (λ (s : Lived). IsIdle s.opening 0 s.history) (sym same) (omega (arith, one), subst (λ h. run_of (own 0 h) ≡ None) (sym empty) refl)

-- nor behind a connection
pub rests_behind : (site before now done : Lived) → site.opening.passes ≡ 1 → before ≡ site → now.opening ≡ before.opening → done ≡ now → HasGrown needs_at before.opening 0 before.history now.history → AllRest done.opening done.history
rests_behind site before now done one first same last grown =
    let one_pass : now.opening.passes ≡ 1 = ap (λ (y : Opening). y.passes) (same ∙ ap (λ (s : Lived). s.opening) first) ∙ one in
    subst (λ (s : Lived). AllRest s.opening s.history) (sym last) (alone_rests now.opening now.history one_pass grown.idle.1)

-- one connection

-- a connection over a port of the site, with a source, a sink and a clock in memory
pub talked : (site before now done : Lived) (talk : Talk) (start still : Moments) (draft : List Edit) (bytes gone answers : List ℕ) (later : Option (List ℕ)) (first risen steps count : ℕ) (ended : Ended)
    → site.history ≡ [] → before ≡ site → now.opening ≡ before.opening → done ≡ now → start.noted ≡ Some [] → still.noted ≡ Some talk.moments → end_number ended ≡ Some talk.ended
    → bytes ≡ talk.bytes → gone ≡ [] → answers ≡ talk.answers
    → Tells (IsSaid (only_connection before.opening)) (IsLeft (only_connection before.opening)) (stand_of [] (standing_of before.history start steps)) (stand_of draft (standing_of now.history still count)) (Some bytes) later first risen (Some gone) (Some answers) ended
    → IsTalked done.opening done.history talk steps count
talked site before now done talk start still draft bytes gone answers later first risen steps count ended empty at_first same at_last none noted end_is came silent told tells =
    let opening : before.opening ≡ done.opening = sym (ap (λ (s : Lived). s.opening) at_last ∙ same) in
    let seen : before.history ≡ [] = ap (λ (s : Lived). s.history) at_first ∙ empty in
    let history : now.history ≡ done.history = sym (ap (λ (s : Lived). s.history) at_last) in
    record {
      start = start;
      still = still;
      before_it = none;
      noted = noted;
      draft = draft;
      later = later;
      before = first;
      risen = risen;
      ended = ended;
      end_is = end_is;
      tells = rw (opening, seen, history, came, silent, told) at tells;
    }

recorded : (site : Lived) (talk : Talk) (bytes : List ℕ) (steps now : ℕ) → talk.bytes ≡ bytes → IsTalked site.opening site.history talk steps now → Legal needs_at site.opening (rolled site.history)
    → is_spent (goes_on_as needs_at site) ≡ false → HasCode site.opening (rolled site.history) (Some talk) → IsRecorded site.opening bytes steps now (goes_on_as needs_at site) (journal site.opening (rolled site.history) (Some talk))
recorded site talk bytes steps now same talked legal room has_code =
    record { history = site.history; talk = talk; bytes_are = same; talked = talked; is_legal = legal; goes_on = refl; room = room; text_is = refl; has_code = has_code }

goes_on_from : (site next : Lived) (talk : Talk) (bytes : List ℕ) (old new : Option (List ℕ)) (steps now : ℕ) → site.opening.passes ≡ 1 → talk.bytes ≡ bytes → IsTalked site.opening site.history talk steps now
    → IsRolled needs_at site next (Some talk) old new → GoesOn site.opening bytes old new steps now next
goes_on_from site next talk bytes old new steps now one same talked is = record {
  text = journal site.opening (rolled site.history) (Some talk);
  recorded = subst (λ x. IsRecorded site.opening bytes steps now x (journal site.opening (rolled site.history) (Some talk))) (sym is.opening) (recorded site talk bytes steps now same talked is.is_legal is.room is.has_code);
  written = is.written;
  one = ap (λ (x : Opening). x.passes) is.opening ∙ one;
  at_start = is.history;
}

pub goes_on : (x : Opening) (site next : Lived) (talk : Talk) (bytes : List ℕ) (old new : Option (List ℕ)) (steps now : ℕ) → site.opening ≡ x → x.passes ≡ 1 → talk.bytes ≡ bytes → IsTalked site.opening site.history talk steps now
    → IsRolled needs_at site next (Some talk) old new → GoesOn x bytes old new steps now next
goes_on x site next talk bytes old new steps now here one same talked is =
    let one_pass : site.opening.passes ≡ 1 = ap (λ (y : Opening). y.passes) here ∙ one in
    subst (λ y. GoesOn y bytes old new steps now next) here (goes_on_from site next talk bytes old new steps now one_pass same talked is)

pub breaks_off : (x : Opening) (site next : Lived) (talk : Talk) (bytes : List ℕ) (old new : Option (List ℕ)) (before risen steps now : ℕ) → site.opening ≡ x → talk.bytes ≡ bytes → IsTalked site.opening site.history talk steps now
    → IsCutShort needs_at site next (Some talk) old new before risen → BreaksOffIn x bytes old new before risen steps now
breaks_off x site next talk bytes old new before risen steps now here same talked is = record {
  text = journal site.opening (rolled site.history) (Some talk);
  next = goes_on_as needs_at site;
  recorded = subst (λ y. IsRecorded y bytes steps now (goes_on_as needs_at site) (journal site.opening (rolled site.history) (Some talk))) here (recorded site talk bytes steps now same talked is.is_legal is.room is.has_code);
  sent = is.sent;
  rose = is.rose;
}

-- nothing was written where the site is as it was
pub is_silent : (site next : Lived) (old new : Option (List ℕ)) → IsUnrolled site next old new → Appends old new []
is_silent site next old new is = subst (λ t. Appends old t []) (sym is.silent) (appends_none old)

-- all of them

-- one connection more is recorded
pub records_next : (x : Opening) (connections : List (List ℕ)) (bytes : List ℕ) (steps mid now : ℕ) (last next : Opening) (text more : List ℕ) → Records x connections steps mid last text → IsRecorded last bytes mid now next more
    → Records x (connections ++ bytes ∷ []) steps now next (text ++ more)
records_next x [] bytes steps mid now last next text more recorded one =
    let here : IsRecorded x bytes steps now next more = subst (λ y. IsRecorded y bytes steps now next more) recorded.0 (subst (λ m. IsRecorded last bytes m now next more) recorded.1 one) in
    (next, now, more, [], here, (refl, refl, refl), ap (λ t. t ++ more) recorded.2 ∙ sym (append-nil more))
records_next x (first ∷ connections) bytes steps mid now last next text more recorded one = (
  recorded.0,
  recorded.1,
  recorded.2,
  recorded.3 ++ more,
  recorded.4,
  records_next recorded.0 connections bytes recorded.1 mid now last next recorded.3 more recorded.5 one,
  ap (λ t. t ++ more) recorded.6 ∙ append_assoc recorded.2 recorded.3 more,
)

-- the first connections were recorded, and this rest is behind them
pub record SoFar (x : Opening) (input rest : List ℕ) (old new : Option (List ℕ)) (steps now : ℕ) (last : Opening) : Type 0 where
  pub front : List (List ℕ)
  pub begins : BeginsWith input front rest
  pub text : List ℕ
  pub recorded : Records x front steps now last text
  pub written : Appends old new text

pub at_start : (x : Opening) (input : List ℕ) (old : Option (List ℕ)) (steps : ℕ) → SoFar x input input old old steps steps x
at_start x input old steps = record { front = []; begins = refl; text = []; recorded = (refl, refl, refl); written = appends_none old }

pub further : (x : Opening) (input rest bytes behind : List ℕ) (old mid new : Option (List ℕ)) (steps at now : ℕ) (last : Opening) (next : Lived) → SoFar x input rest old mid steps at last → first_connection rest ≡ Some (bytes, behind)
    → GoesOn last bytes mid new at now next → SoFar x input behind old new steps now next.opening
further x input rest bytes behind old mid new steps at now last next so first on = record {
  front = so.front ++ bytes ∷ [];
  begins = begins_next input so.front rest bytes behind so.begins first;
  text = so.text ++ on.text;
  recorded = records_next x so.front bytes steps at now last next.opening so.text on.text so.recorded on.recorded;
  written = appends_both old mid new so.text on.text so.written on.written;
}

-- why it ended at a connection says what was recorded
pub ends : (why : Recorded) (x : Opening) (input rest bytes behind : List ℕ) (old mid new : Option (List ℕ)) (before risen steps at now : ℕ) (last : Opening) → SoFar x input rest old mid steps at last
    → first_connection rest ≡ Some (bytes, behind) → Ends last bytes mid new before risen at now why → ComesOn x input old new steps now why
ends Done x input rest bytes behind old mid new before risen steps at now last so first is = absurd is
ends NotListed x input rest bytes behind old mid new before risen steps at now last so first is = absurd is
ends ReadFault x input rest bytes behind old mid new before risen steps at now last so first is = absurd is
ends WriteFault x input rest bytes behind old mid new before risen steps at now last so first is = record {
  connections = so.front;
  bytes = bytes;
  behind = rest;
  rest = behind;
  begins = so.begins;
  then = first;
  last = last;
  next = is.next;
  mid = at;
  text = so.text;
  cut = is.text;
  recorded = so.recorded;
  broken = is.recorded;
  written = record { count = is.sent.0; within = is.sent.1; written = appends_both old mid new so.text _ so.written is.sent.2 };
}
ends NoMemory x input rest bytes behind old mid new before risen steps at now last so first is = record {
  connections = so.front;
  rest = rest;
  begins = so.begins;
  last = last;
  mid = at;
  text = so.text;
  recorded = so.recorded;
  written = subst (λ t. Appends old new t) (append-nil so.text) (appends_both old mid new so.text [] so.written is);
}

pub all_recorded : (x : Opening) (input rest : List ℕ) (old new : Option (List ℕ)) (steps now : ℕ) (last : Opening) → SoFar x input rest old new steps now last → first_connection rest ≡ None
    → (connections : List (List ℕ)) × BeginsWith input connections [] → AreRecorded x input old new steps now
all_recorded x input rest old new steps now last so none listed = record {
  connections = so.front;
  listed = subst (λ r. BeginsWith input so.front r) (last_behind input so.front rest so.begins none listed) so.begins;
  last = last;
  text = so.text;
  recorded = so.recorded;
  written = so.written;
}

-- a fault of the sink was counted in this connection, and so since the first
pub rose_in : (why : Recorded) (last : Opening) (bytes : List ℕ) (mid new : Option (List ℕ)) (start before risen at now : ℕ) → start ≤ before → why ≡ WriteFault → Ends last bytes mid new before risen at now why → Rose start risen
rose_in why last bytes mid new start before risen at now later is ends =
    let broke : BreaksOffIn last bytes mid new before risen at now = subst (λ w. Ends last bytes mid new before risen at now w) is ends in
    from broke.rose
  where
    from : Rose before risen → Rose start risen
    from rose = omega (arith, later, rose)

-- the whole command

-- no connection was recorded yet
pub none_recorded : (x : Opening) (input : List ℕ) (old : Option (List ℕ)) (steps : ℕ) → AreCutShort x input old old steps
none_recorded x input old steps = record {
  connections = [];
  rest = input;
  begins = refl;
  last = x;
  mid = steps;
  text = [];
  recorded = (refl, refl, refl);
  written = appends_none old;
}

-- what came to its end is what the connections came to
pub comes_to : (why : Recorded) (x : Opening) (left later old new : Option (List ℕ)) (steps now : ℕ) (came : List ℕ) → HasCome most_bytes left later came → length came ≤ most_bytes
    → (connections : List (List ℕ)) × IsListOf came connections → ComesOn x came old new steps now why → Comes x left later old new steps now why
comes_to Done x left later old new steps now came come short listed comes = record { came = came; come = come; short = short; listed = listed; comes = comes }
comes_to NotListed x left later old new steps now came come short listed comes = absurd comes
comes_to ReadFault x left later old new steps now came come short listed comes = absurd comes
comes_to WriteFault x left later old new steps now came come short listed comes = record { came = came; come = come; short = short; listed = listed; comes = comes }
comes_to NoMemory x left later old new steps now came come short listed comes = record { came = came; consumed = come.consumed; short = comes }

-- recording connections ends by no read
pub never_read : (why : Recorded) (x : Opening) (input : List ℕ) (old new : Option (List ℕ)) (steps now : ℕ) → ComesOn x input old new steps now why → why ≡ ReadFault → ⊥
never_read why x input old new steps now comes is = subst (λ w. ComesOn x input old new steps now w) is comes

-- what came is too long for a list
pub too_long : (left later old : Option (List ℕ)) (steps : ℕ) (came : List ℕ) → HasCome most_bytes left later came → most_bytes < length came → IsNotListed left later old old steps steps
too_long left later old steps came come long = record {
  came = came;
  come = come;
  unlisted = λ short. absurd (omega (arith, long, short));
  silent = appends_none old;
  unread = refl;
}

-- what came is no list
pub unlisted : (left later old : Option (List ℕ)) (steps : ℕ) (came given : List ℕ) → given ≡ came → HasCome most_bytes left later came → ((connections : List (List ℕ)) → IsListOf given connections → ⊥) → IsNotListed left later old old steps steps
unlisted left later old steps came given same come none = record {
  came = came;
  come = come;
  unlisted = λ short connections listed. none connections (subst (λ l. IsListOf l connections) (sym same) listed);
  silent = appends_none old;
  unread = refl;
}

-- a list that came whole
pub whole_comes : (why : Recorded) (x y : Opening) (left later old new : Option (List ℕ)) (steps now : ℕ) (came listed given : List ℕ) → y ≡ x → listed ≡ came → given ≡ came → HasCome most_bytes left later came → length came ≤ most_bytes
    → (connections : List (List ℕ)) × IsListOf listed connections → ComesOn y given old new steps now why → Comes x left later old new steps now why
whole_comes why x y left later old new steps now came listed given here same also come short is comes =
    comes_to why x left later old new steps now came come short (is.0, subst (λ l. IsListOf l is.0) same is.1)
    (subst (λ l. ComesOn x l old new steps now why) also (subst (λ z. ComesOn z given old new steps now why) here comes))
