-- The Roll of a site at rest, and the opening that goes on from it.
use Rattle.std.proofs.Common.{◌≡◌, ◌<◌, ◌^◌, ◌||◌, ◌&&◌, ℕ, suc, Bool, true, false, List, [], ◌∷◌, length, Option, Some, None, refl, sym, ap, subst, ◌∙◌, arith}
use Rattle.std.proofs.lemmas.Bool.Decides.{nat_tests}
use Rattle.std.specs.Prelude.{nat_le, nat_lt}
use Rattle.site_words.proofs.Items.{and_both, and_left, le_of, to_lt}
use Rattle.site_words.proofs.Lasting.{run_is_own}
use Rattle.site_words.proofs.Legal.{after_push, legal_push, passes_len}
use Rattle.site_words.specs.Fits.{at_rest}
use Rattle.site_words.specs.Invariants.{AllRest}
use Rattle.site_words.specs.Law.{Legal}
use Rattle.site_words.specs.Laws.{NextIsSound, RollsOver}
use Rattle.site_words.specs.Opening.{is_sound, next_opening, sound_app, sound_counts, sound_sessions, sound_tree}
use Rattle.site_words.specs.Runs.{UnderWay, run_at}
use Rattle.site_words.specs.State.{State, after}
use Rattle.site_words.specs.Trees.{Needs}
use Rattle.site_words.specs.declared.words.Entry.{Entry}
use Rattle.site_words.specs.declared.words.Op.TheVariants as op
use Rattle.site_words.specs.declared.words.Opening.{Opening}
use Rattle.site_words.specs.declared.words.Reply.TheVariants as reply
use Rattle.site_core.specs.Lived.{Lived}
use Rattle.std.specs.Io.KnownBytes.{Appends}
use Rattle.edges.specs.Faults.{Rose}
use Rattle.http_out.specs.Sent.{Sent}
use Rattle.site_journal.specs.Journal.{journal, rolled}
use Rattle.site_journal.specs.Reading.{HasCode}
use Rattle.site_journal.specs.declared.talk.Talk.{Talk}
use Rattle.rollover.specs.Roll.{IsCutShort, IsRolled, IsUnrolled, goes_on_as, is_spent}

none_under_way : (runs : List (Option UnderWay)) → ((k : ℕ) → k < length runs → run_at runs k ≡ None) → at_rest runs ≡ true
none_under_way [] rests = refl
none_under_way (None ∷ runs) rests = none_under_way runs (λ k within. rests (suc k) (omega (arith, within)))
none_under_way (Some under ∷ runs) rests = some_under_way under (rests 0 (omega arith))
  where
    some_under_way : (under : UnderWay) → Some under.run ≡ None → at_rest (Some under ∷ runs) ≡ true
    some_under_way under is = absurd (cc)

-- where no pass has a request under way, the state has none
state_rests : (needs : Needs) (x : Opening) (history : List Entry) → AllRest x history → at_rest (after needs x history).runs ≡ true
state_rests needs x history rest =
    none_under_way (after needs x history).runs
    (λ k within. let below : k < x.passes = subst (λ n. k < n) (passes_len needs x history) within in run_is_own needs x history k below ∙ rest k below)

some_pass : (x : Opening) → is_sound x ≡ true → 0 < x.passes
some_pass x sound =
    let counts = and_left (sound_counts x) (sound_tree x && (sound_app x && sound_sessions x)) sound in
    let some = le_of 1 x.passes (and_left (nat_le 1 x.passes) (nat_le x.passes 64 && (nat_lt x.version (2 ^ 63) && (nat_lt x.begins (2 ^ 63) && nat_lt x.freshes (2 ^ 63)))) counts) in
    omega (arith, some)

-- a Roll of pass 0 may come
pub rolled_is_legal : (needs : Needs) (x : Opening) (history : List Entry) → is_sound x ≡ true → Legal needs x history → AllRest x history → Legal needs x (rolled history)
rolled_is_legal needs x history sound legal rest =
    legal_push needs x history (record { pass = 0; op = op.Roll; reply = reply.Rolled }) legal (record {
      fit = and_both (nat_lt 0 x.passes) (at_rest (after needs x history).runs) (to_lt 0 x.passes (some_pass x sound)) (state_rests needs x history rest);
      did = refl;
    })

-- it changes nothing that the next opening has
pub rolled_goes_on : (needs : Needs) (site : Lived) → goes_on_as needs site ≡ next_opening site.opening (after needs site.opening site.history)
rolled_goes_on needs site = ap (next_opening site.opening) (after_push needs site.opening site.history (record { pass = 0; op = op.Roll; reply = reply.Rolled }))

below_end : (n : ℕ) → nat_le (2 ^ 63) n ≡ false → n < 2 ^ 63
below_end n is = grind (arith, nat_tests)

or_left : (a b : Bool) → (a || b) ≡ false → a ≡ false
or_left false b is = refl
or_left true b is = absurd (cc)

or_right : (a b : Bool) → (a || b) ≡ false → b ≡ false
or_right false b is = is
or_right true b is = absurd (cc)

-- the next opening is sound where no count is spent
pub next_is_sound : NextIsSound → (needs : Needs) (site : Lived) → is_sound site.opening ≡ true → Legal needs site.opening site.history
    → is_spent (next_opening site.opening (after needs site.opening site.history)) ≡ false → is_sound (next_opening site.opening (after needs site.opening site.history)) ≡ true
next_is_sound law needs site sound legal room =
    let s : State = after needs site.opening site.history in
    let counts = or_right (nat_le (2 ^ 63) s.version) (nat_le (2 ^ 63) s.begins || nat_le (2 ^ 63) s.freshes) room in
    law needs site.opening site.history sound legal
    (below_end s.version (or_left (nat_le (2 ^ 63) s.version) (nat_le (2 ^ 63) s.begins || nat_le (2 ^ 63) s.freshes) room))
    (below_end s.begins (or_left (nat_le (2 ^ 63) s.begins) (nat_le (2 ^ 63) s.freshes) counts))
    (below_end s.freshes (or_right (nat_le (2 ^ 63) s.begins) (nat_le (2 ^ 63) s.freshes) counts))

-- what a rollover comes to, by what was written

room_left : (needs : Needs) (site : Lived) (opening : Opening) (b : Bool) → opening ≡ next_opening site.opening (after needs site.opening site.history) → is_spent opening ≡ b → is_spent (goes_on_as needs site) ≡ b
room_left needs site opening b is spent = ap is_spent (rolled_goes_on needs site ∙ sym is) ∙ spent

pub comes_to_new : RollsOver → (needs : Needs) (site next : Lived) (opening : Opening) (talk : Option Talk) (old new : Option (List ℕ)) → is_sound site.opening ≡ true → Legal needs site.opening site.history
    → AllRest site.opening site.history → opening ≡ next_opening site.opening (after needs site.opening site.history) → is_spent opening ≡ false → next.opening ≡ opening → next.history ≡ []
    → Appends old new (journal site.opening (rolled site.history) talk) → HasCode site.opening (rolled site.history) talk → IsRolled needs site next talk old new
comes_to_new law needs site next opening talk old new sound legal rest is room goes empty written has_code =
    let rolled_legal : Legal needs site.opening (rolled site.history) = rolled_is_legal needs site.opening site.history sound legal rest in
    let goes_on : next.opening ≡ goes_on_as needs site = goes ∙ is ∙ sym (rolled_goes_on needs site) in
    record {
      written = written;
      has_code = has_code;
      is_legal = rolled_legal;
      opening = goes_on;
      history = empty;
      one_history = λ later legal_later. law needs site.opening site.history later 0 rolled_legal (subst (λ x. Legal needs x later) goes_on legal_later);
      room = room_left needs site opening false is room;
    }

pub comes_to_old : (needs : Needs) (site : Lived) (opening : Opening) (talk : Option Talk) (old new : Option (List ℕ)) (before risen : ℕ) → is_sound site.opening ≡ true → Legal needs site.opening site.history
    → AllRest site.opening site.history → opening ≡ next_opening site.opening (after needs site.opening site.history) → is_spent opening ≡ false
    → Sent old new (journal site.opening (rolled site.history) talk) true → HasCode site.opening (rolled site.history) talk → Rose before risen → IsCutShort needs site site talk old new before risen
comes_to_old needs site opening talk old new before risen sound legal rest is room sent has_code rose = record {
  same = refl;
  is_legal = rolled_is_legal needs site.opening site.history sound legal rest;
  sent = sent;
  has_code = has_code;
  rose = rose;
  room = room_left needs site opening false is room;
}

pub comes_to_nothing : (site : Lived) (old : Option (List ℕ)) → IsUnrolled site site old old
comes_to_nothing site old = record { same = refl; silent = refl }

pub is_spent_behind : (needs : Needs) (site : Lived) (opening : Opening) → opening ≡ next_opening site.opening (after needs site.opening site.history) → is_spent opening ≡ true → is_spent (goes_on_as needs site) ≡ true
is_spent_behind needs site opening is spent = room_left needs site opening true is spent
