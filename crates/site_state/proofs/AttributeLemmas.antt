-- What the code does to the list of sessions is what the state's definitions do, whatever attributes stand there.
use Rattle.std.proofs.Common.{◌≡◌, ℕ, ◌+◌, ◌<◌, zero, suc, Bool, true, false, not, List, [], ◌∷◌, ◌++◌, length, take, get_or, Option, Some, None, option_map, refl, sym, ap, ◌∙◌, if◌then◌else◌, arith}
use Rattle.std.specs.Prelude.{◌==◌, ◌||◌, nat_lt, nat_le, ◌-◌, slice_get}
use Rattle.std.proofs.lemmas.Bool.{and_parts, eq-eqb, ne_eqb, not-true, or_from, or_parts}
use Rattle.std.proofs.lemmas.List.{map-append, length-map, take_more}
use Rattle.site_words.specs.declared.words.Entry.{Entry}
use Rattle.site_words.specs.declared.words.KeptSession.{KeptSession}
use Rattle.site_words.specs.Ids.{is_id}
use Rattle.site_words.specs.Invariants.{has_number}
use Rattle.site_words.specs.Opening.{are_distinct}
use Rattle.site_words.specs.Runs.{UnderWay}
use Rattle.site_words.specs.Sessions.{attrs_of, awake, first_free, holder, holder_of, most_sessions, number_of, numbered, session_at, unheld, unless_none, used_at, with_room, without}
use Rattle.site_words.proofs.Items.{each_filter, each_map, each_push}
use Rattle.site_state.specs.declared.session.Session.{Session}
use Rattle.site_state.specs.declared.session.Source.{Source}
use Rattle.site_state.specs.declared.session.Source.TheVariants.{Nowhere, Opened, Ended}
use Rattle.site_state.specs.ReadDone.{attrs_in}
use Rattle.site_state.specs.ReadSessions.{first_unheld, found_at, has_named, held_by, named, number_in, others, others_if, roomy, source_in, still_awake, touched}
use Rattle.site_state.specs.Sources.{AreThere, IsThere, attrs_at, session_of, sessions_of, written_in}

module _ (opened : List KeptSession) (history : List Entry) where
  pub found_is : (seed cookie : List ℕ) (sessions : List Session) → session_at seed cookie (sessions_of opened history sessions) ≡ option_map (session_of opened history) (found_at seed cookie sessions)
  found_is seed cookie [] = refl
  found_is seed cookie (session ∷ sessions) = go (is_id seed session.number cookie) (found_is seed cookie sessions)
    where
      go : (b : Bool) → session_at seed cookie (sessions_of opened history sessions) ≡ option_map (session_of opened history) (found_at seed cookie sessions)
          → (if b then Some (session_of opened history session) else session_at seed cookie (sessions_of opened history sessions)) ≡ option_map (session_of opened history) (if b then Some session else found_at seed cookie sessions)
      go true more = refl
      go false more = more

  pub named_is : (number : ℕ) (sessions : List Session) → numbered number (sessions_of opened history sessions) ≡ option_map (session_of opened history) (named number sessions)
  named_is number [] = refl
  named_is number (session ∷ sessions) = go (session.number == number) (named_is number sessions)
    where
      go : (b : Bool) → numbered number (sessions_of opened history sessions) ≡ option_map (session_of opened history) (named number sessions)
          → (if b then Some (session_of opened history session) else numbered number (sessions_of opened history sessions)) ≡ option_map (session_of opened history) (if b then Some session else named number sessions)
      go true more = refl
      go false more = more

  pub number_is : (session : Option Session) → number_of (option_map (session_of opened history) session) ≡ number_in session
  number_is None = refl
  number_is (Some session) = refl

  pub attrs_is : (session : Option Session) → attrs_of (option_map (session_of opened history) session) ≡ attrs_in opened history session
  attrs_is None = refl
  attrs_is (Some session) = refl

  pub source_is : (session : Option Session) → attrs_of (option_map (session_of opened history) session) ≡ attrs_at opened history (source_in session)
  source_is None = refl
  source_is (Some session) = refl

  pub holder_is : (session : Option Session) (runs : List (Option UnderWay)) → holder (option_map (session_of opened history) session) runs ≡ held_by session runs
  holder_is None runs = refl
  holder_is (Some session) runs = refl

  pub awake_is : (idle moment : ℕ) (session : Option Session) → awake idle moment (option_map (session_of opened history) session) ≡ option_map (session_of opened history) (still_awake idle moment session)
  awake_is idle moment None = refl
  awake_is idle moment (Some session) = go (nat_lt idle (moment - session.used))
    where
      go : (b : Bool) → (if b then None else Some (session_of opened history session)) ≡ option_map (session_of opened history) (if b then None else Some session)
      go true = refl
      go false = refl

  pub others_is : (number : ℕ) (sessions : List Session) → sessions_of opened history (others number sessions) ≡ without number (sessions_of opened history sessions)
  others_is number [] = refl
  others_is number (session ∷ sessions) = go (not (session.number == number)) (others_is number sessions)
    where
      go : (b : Bool) → sessions_of opened history (others number sessions) ≡ without number (sessions_of opened history sessions)
          → sessions_of opened history (if b then session ∷ others number sessions else others number sessions)
          ≡ (if b then session_of opened history session ∷ without number (sessions_of opened history sessions) else without number (sessions_of opened history sessions))
      go true more = ap (λ l. session_of opened history session ∷ l) more
      go false more = more

  pub others_if_is : (number : Option ℕ) (sessions : List Session) → sessions_of opened history (others_if number sessions) ≡ unless_none number (sessions_of opened history sessions)
  others_if_is None sessions = refl
  others_if_is (Some number) sessions = others_is number sessions

  pub touched_is : (number moment : ℕ) (sessions : List Session) → sessions_of opened history (touched number moment sessions) ≡ used_at number moment (sessions_of opened history sessions)
  touched_is number moment [] = refl
  touched_is number moment (session ∷ sessions) = go (session.number == number) (touched_is number moment sessions)
    where
      go : (b : Bool) → sessions_of opened history (touched number moment sessions) ≡ used_at number moment (sessions_of opened history sessions)
          → session_of opened history (if b then record { number = session.number; used = moment; source = session.source } else session) ∷ sessions_of opened history (touched number moment sessions)
          ≡ (if b then record { number = session.number; used = moment; attrs = attrs_at opened history session.source } else session_of opened history session) ∷ used_at number moment (sessions_of opened history sessions)
      go true more = ap (λ l. record { number = session.number; used = moment; attrs = attrs_at opened history session.source } ∷ l) more
      go false more = ap (λ l. session_of opened history session ∷ l) more

  pub free_is : (runs : List (Option UnderWay)) (sessions : List Session) → first_free runs (sessions_of opened history sessions) ≡ first_unheld runs sessions
  free_is runs [] = refl
  free_is runs (session ∷ sessions) = ap (λ later. unheld (holder_of session.number runs) session.number later) (free_is runs sessions)

  pub roomy_is : (runs : List (Option UnderWay)) (sessions : List Session) → sessions_of opened history (roomy runs sessions) ≡ with_room runs (sessions_of opened history sessions)
  roomy_is runs sessions =
      go (nat_le most_sessions (length sessions))
      ∙ ap (λ n. if nat_le most_sessions n then unless_none (first_free runs (sessions_of opened history sessions)) (sessions_of opened history sessions) else sessions_of opened history sessions) (sym (length-map sessions (session_of opened history)))
    where
      go : (b : Bool) → sessions_of opened history (if b then others_if (first_unheld runs sessions) sessions else sessions)
          ≡ (if b then unless_none (first_free runs (sessions_of opened history sessions)) (sessions_of opened history sessions) else sessions_of opened history sessions)
      go true = others_if_is (first_unheld runs sessions) sessions ∙ ap (λ n. unless_none n (sessions_of opened history sessions)) (sym (free_is runs sessions))
      go false = refl

-- attributes that stand in the opening or in an earlier entry stand there after one more

pub there_later : (n : ℕ) (sessions : List Session) → AreThere n sessions → AreThere (n + 1) sessions
there_later n sessions all = each_map (λ (s : Session). IsThere n s.source) (λ (s : Session). IsThere (n + 1) s.source) sessions (λ (s : Session) is. one s.source is) all
  where
    one : (source : Source) → IsThere n source → IsThere (n + 1) source
    one Nowhere is = tt
    one (Opened index) is = tt
    one (Ended place) is = omega arith

pub there_others : (n number : ℕ) (sessions : List Session) → AreThere n sessions → AreThere n (others number sessions)
there_others n number sessions all = each_filter (λ (s : Session). IsThere n s.source) (λ (s : Session). not (s.number == number)) sessions all

pub there_others_if : (n : ℕ) (number : Option ℕ) (sessions : List Session) → AreThere n sessions → AreThere n (others_if number sessions)
there_others_if n None sessions all = all
there_others_if n (Some number) sessions all = there_others n number sessions all

pub there_touched : (n number moment : ℕ) (sessions : List Session) → AreThere n sessions → AreThere n (touched number moment sessions)
there_touched n number moment [] all = tt
there_touched n number moment (session ∷ sessions) all = (go (session.number == number) all.0, there_touched n number moment sessions all.1)
  where
    go : (b : Bool) → IsThere n session.source → IsThere n (if b then record { number = session.number; used = moment; source = session.source } else session).source
    go true is = is
    go false is = is

pub there_roomy : (n : ℕ) (runs : List (Option UnderWay)) (sessions : List Session) → AreThere n sessions → AreThere n (roomy runs sessions)
there_roomy n runs sessions all = go (nat_le most_sessions (length sessions))
  where
    go : (b : Bool) → AreThere n (if b then others_if (first_unheld runs sessions) sessions else sessions)
    go true = there_others_if n (first_unheld runs sessions) sessions all
    go false = all

pub there_push : (n : ℕ) (sessions : List Session) (session : Session) → AreThere n sessions → IsThere n session.source → AreThere n (sessions ++ session ∷ [])
there_push n sessions session all is = each_push (λ (s : Session). IsThere n s.source) sessions session all is

pub there_named : (n number : ℕ) (sessions : List Session) → AreThere n sessions → IsThere n (source_in (named number sessions))
there_named n number [] all = tt
there_named n number (session ∷ sessions) all = go (session.number == number) (there_named n number sessions all.1)
  where
    go : (b : Bool) → IsThere n (source_in (named number sessions)) → IsThere n (source_in (if b then Some session else named number sessions))
    go true more = all.0
    go false more = more

-- and they are the same there

get_left : {A : Type 0} (xs ys : List A) (i : ℕ) → i < length xs → slice_get (xs ++ ys) i ≡ slice_get xs i
get_left [] ys i within = absurd (omega arith)
get_left (x ∷ xs) ys zero within = refl
get_left (x ∷ xs) ys (suc i) within = get_left xs ys i (omega arith)

pub same_attributes : (opened : List KeptSession) (history more : List Entry) (sessions : List Session) → AreThere (length history) sessions → sessions_of opened (history ++ more) sessions ≡ sessions_of opened history sessions
same_attributes opened history more [] all = refl
same_attributes opened history more (session ∷ sessions) all =
    ap (λ attrs. record { number = session.number; used = session.used; attrs = attrs } ∷ sessions_of opened (history ++ more) sessions) (one session.source all.0)
    ∙ ap (λ l. session_of opened history session ∷ l) (same_attributes opened history more sessions all.1)
  where
    one : (source : Source) → IsThere (length history) source → attrs_at opened (history ++ more) source ≡ attrs_at opened history source
    one Nowhere is = refl
    one (Opened index) is = refl
    one (Ended place) is = ap (λ e. written_in e) (get_left history more place is)

-- the opening's sessions

get_some : {A : Type 0} (xs : List A) (i : ℕ) (x : A) → i < length xs → x ≡ get_or xs i x → slice_get xs i ≡ Some x
get_some [] i x within read = absurd (omega arith)
get_some (y ∷ xs) zero x within read = ap (λ v. Some v) (sym read)
get_some (y ∷ xs) (suc i) x within read = get_some xs i x (omega arith) read

pub opened_more : (opened : List KeptSession) (sessions more : List Session) (i : ℕ) (kept : KeptSession) → i < length opened → kept ≡ get_or opened i kept → sessions_of opened [] sessions ≡ take i opened
    → more ≡ sessions ++ record { number = kept.number; used = kept.used; source = Opened i } ∷ [] → sessions_of opened [] more ≡ take (i + 1) opened
opened_more opened sessions more i kept within read sofar is =
    ap (λ l. sessions_of opened [] l) is
    ∙ (map-append (session_of opened []) sessions (record { number = kept.number; used = kept.used; source = Opened i } ∷ [])
    ∙ (ap (λ k. sessions_of opened [] sessions ++ record { number = kept.number; used = kept.used; attrs = attrs_of k } ∷ []) (get_some opened i kept within read)
    ∙ (ap (λ l. l ++ kept ∷ []) sofar ∙ (ap (λ k. take i opened ++ k ∷ []) read ∙ sym (take_more opened i kept within)))))

-- a session that comes later has another number than those before it

has_same : (n : ℕ) (opened : List KeptSession) (history : List Entry) (sessions : List Session) → has_named n sessions ≡ has_number n (sessions_of opened history sessions)
has_same n opened history [] = refl
has_same n opened history (session ∷ sessions) = ap (λ b. (session.number == n) || b) (has_same n opened history sessions)

other_number : (kept : KeptSession) (opened : List KeptSession) (i : ℕ) (d : KeptSession) → has_number kept.number opened ≡ false → i < length opened → (kept.number == (get_or opened i d).number) ≡ false
other_number kept [] i d none within = absurd (omega arith)
other_number kept (first ∷ opened) zero d none within = ne_eqb kept.number first.number (λ e. absurd (let here = eq-eqb first.number kept.number (sym e) in let parts = or_parts (first.number == kept.number) (has_number kept.number opened) none in cc))
other_number kept (first ∷ opened) (suc i) d none within = other_number kept opened i d (or_parts (first.number == kept.number) (has_number kept.number opened) none).1 (omega arith)

apart_before : (opened : List KeptSession) (i : ℕ) (d : KeptSession) → are_distinct opened ≡ true → i < length opened → has_number (get_or opened i d).number (take i opened) ≡ false
apart_before [] i d distinct within = absurd (omega arith)
apart_before (first ∷ opened) zero d distinct within = refl
apart_before (first ∷ opened) (suc i) d distinct within =
    let parts = and_parts (not (has_number first.number opened)) (are_distinct opened) distinct in
    or_from (first.number == (get_or opened i d).number) (has_number (get_or opened i d).number (take i opened)) (other_number first opened i d (not-true (has_number first.number opened) parts.0) (omega arith))
    (apart_before opened i d parts.1 (omega arith))

pub opened_apart : (opened : List KeptSession) (sessions : List Session) (i : ℕ) (kept : KeptSession) → are_distinct opened ≡ true → i < length opened → kept ≡ get_or opened i kept → sessions_of opened [] sessions ≡ take i opened → has_named kept.number sessions ≡ false
opened_apart opened sessions i kept distinct within read sofar =
    has_same kept.number opened [] sessions ∙ ap (has_number kept.number) sofar ∙ ap (λ (k : KeptSession). has_number k.number (take i opened)) read ∙ apart_before opened i kept distinct within
