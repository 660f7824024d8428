-- The bytes that exchanges read.
use Rattle.std.proofs.Common.{◌≡◌, ℕ, ◌+◌, List, [], ◌∷◌, ◌++◌, Bool, true, false, refl, sym, ap, subst, inl, inr, arith}
use Rattle.std.proofs.lemmas.List.Sums.{sum_by-append}
use Rattle.std.specs.Bool.{MatchBool}
use Rattle.std.specs.Prelude.{◌⊎◌}
use Rattle.conversation.specs.Conversation.{closes}
use Rattle.editor.specs.Message.{message}
use Rattle.http_in.specs.declared.request.Request.{Request}
use Rattle.page_answers.specs.Answers.{IsAnswered, IsNotTaken, IsRefused, attrs_left}
use Rattle.http_out.specs.Methods.{takes_method}
use Rattle.page_answers.specs.Standing.{AtMoment, Standing, tree_at}
use Rattle.page_answers.specs.Turns.{Turn, all_bytes, all_calls, bytes_for, calls_of, hit, made, missed as missed_turn, stepped, unoffered}
use Rattle.pass_course.proofs.CourseLemmas.{courses_join, done_acts, done_none, done_stays}
use Rattle.pass_course.specs.Course.{HasDone}
use Rattle.site_words.specs.Law.{Legal}
use Rattle.site_words.specs.declared.words.Op.{Op}
use Rattle.site_words.specs.declared.words.Op.TheVariants as op
use Rattle.site_words.specs.declared.words.Reply.{Reply}
use Rattle.site_words.specs.declared.words.Reply.TheVariants as reply
use Rattle.source_tree.specs.declared.edit.Edit.{Edit}
use Rattle.source_tree.specs.declared.file.File.{File}
use Rattle.talk_words.proofs.UseLemmas.{takes_use}
use Rattle.talk_words.specs.Connection.{Connection, Stand}
use Rattle.talk_words.specs.Said.{Says, taken_as, way}
use Rattle.talk_words.specs.Uses.{IsPublishing}
use Rattle.talk_words.specs.Work.{HasExactWork, HasRead, missed, missed_by}
use Rattle.talk_words.specs.declared.way.Way.{Way}
use Rattle.talk_words.specs.declared.way.Way.TheVariants.{Asks, Edits, Nowhere}

-- the entries of steps tell what was read for them

turn_missed : (tree : List File) (request : ℕ) (turn : Turn) → missed tree (calls_of request turn) ≡ bytes_for tree turn
turn_missed tree request (stepped step r) = refl
turn_missed tree request (made session) = refl
turn_missed tree request (hit path) = refl
turn_missed tree request (missed_turn path kept) = omega arith
turn_missed tree request (unoffered path) = omega arith

turns_missed : (tree : List File) (request : ℕ) (turns : List Turn) → missed tree (all_calls request turns) ≡ all_bytes tree turns
turns_missed tree request [] = refl
turns_missed tree request (turn ∷ turns) =
    let both = sum_by-append (missed_by tree) (calls_of request turn) (all_calls request turns) in
    let one = turn_missed tree request turn in
    let more = turns_missed tree request turns in
    omega (arith, both, one, more)

-- a request reads what its pages missed
answered_reads : (w : Connection) (request : Request) (close : Bool) (a b : Stand) (text : List ℕ) (broken : Bool) (moment : ℕ)
    → IsAnswered w.needs w.opening w.pass request close a.at text broken b.at moment → HasRead w a b
answered_reads w request close a b text broken moment is =
    let begins = is.begins in
    let tree = tree_at w.needs w.opening is.begun in
    let last : Op × Reply = (op.End begins.request (attrs_left is.end), reply.Ended) in
    let first : Op × Reply = (op.Begin request.cookie moment, reply.Begun begins.request begins.version begins.session) in
    let steps = all_calls begins.request is.turns in
    let both = sum_by-append (missed_by tree) steps (last ∷ []) in
    let turns = turns_missed tree begins.request is.turns in
    let read = is.read in
    record {
      calls = first ∷ (steps ++ last ∷ []);
      did = courses_join w.needs w.opening w.pass a.at.seen is.begun b.at.seen (first ∷ []) (steps ++ last ∷ []) (done_acts w.needs w.opening w.pass a.at.seen is.begun first.0 first.1 begins.acts) is.did;
      tree = tree;
      is_tree = (is.begun, begins.acts, is.did.longer, refl);
      read = omega (arith, both, turns, read);
    }

-- what reads nothing

reads_none : (w : Connection) (a b : Stand) → HasDone w.needs w.opening w.pass a.at.seen b.at.seen [] → b.at.steps ≡ a.at.steps → HasRead w a b
reads_none w a b did read = record { calls = []; did = did; tree = []; is_tree = tt; read = omega (arith, read) }

reads_same : (w : Connection) (a b : Stand) → Legal w.needs w.opening a.at.seen → b.at ≡ a.at → HasRead w a b
reads_same w a b legal same =
    reads_none w a b (subst (λ (s : Standing). HasDone w.needs w.opening w.pass a.at.seen s.seen []) (sym same) (done_none w.needs w.opening w.pass a.at.seen legal)) (ap (λ (s : Standing). s.steps) same)

reads_publishing : (w : Connection) (request : Request) (draft : List Edit) (a b : Stand) (calls : List (Op × Reply)) → IsPublishing request draft calls ⊎ (calls ≡ []) → HasDone w.needs w.opening w.pass a.at.seen b.at.seen calls
    → b.at.steps ≡ a.at.steps → HasRead w a b
reads_publishing w request draft a b calls (inl is) did read = record {
  calls = (op.Publish is.base draft, reply.Published is.version is.dirty) ∷ [];
  did = subst (λ c. HasDone w.needs w.opening w.pass a.at.seen b.at.seen c) is.is did;
  tree = [];
  is_tree = tt;
  read = omega (arith, read);
}
reads_publishing w request draft a b calls (inr is) did read = reads_none w a b (subst (λ c. HasDone w.needs w.opening w.pass a.at.seen b.at.seen c) is did) read

answers_read : (w : Connection) (request : Request) (close : Bool) (a b : Stand) (text : List ℕ) (broken : Bool) (takes : Bool) → Legal w.needs w.opening a.at.seen
    → MatchBool takes
    (AtMoment a.at b.at (λ moment. IsAnswered w.needs w.opening w.pass request close a.at text broken b.at moment ⊎ IsRefused w.needs w.opening w.pass request close a.at text broken b.at moment))
    (IsNotTaken request close a.at text broken b.at)
    → HasRead w a b
answers_read w request close a b text broken true legal is = go is.done
  where
    go : IsAnswered w.needs w.opening w.pass request close a.at text broken b.at is.moment ⊎ IsRefused w.needs w.opening w.pass request close a.at text broken b.at is.moment → HasRead w a b
    go (inl answered) = answered_reads w request close a b text broken is.moment answered
    go (inr refused) = reads_none w a b (done_stays w.needs w.opening w.pass a.at.seen b.at.seen refused.stays) refused.read
answers_read w request close a b text broken false legal is = reads_same w a b legal is.same

says_read : (w : Connection) (route : Way) (request : Request) (close : Bool) (a b : Stand) (text : List ℕ) (broken : Bool) → Legal w.needs w.opening a.at.seen → Says w route request close a text broken b → HasRead w a b
says_read w Edits request close a b text broken legal is =
    let used = takes_use w.needs w.opening w.pass request (message request) a.draft b.draft a.at.seen b.at.seen (taken_as is.told) refl legal is.takes in
    reads_publishing w request a.draft a b used.0 used.1 used.2 is.quiet.read
says_read w Nowhere request close a b text broken legal is = reads_same w a b legal (ap (λ (s : Stand). s.at) is.same)
says_read w Asks request close a b text broken legal is = answers_read w request close a b text broken (takes_method request.method) legal is.0

pub exact_work : HasExactWork
exact_work w number old new [] legal walked = record { total = 0; are_read = (walked, refl); rose = (let same = ap (λ (s : Stand). s.at.steps) walked in omega (arith, same)) }
exact_work w number old new (e ∷ exchanges) legal walked =
    let mid = walked.0 in
    let one = says_read w (way w e.request) e.request (closes number e.request) old mid e.text e.broken legal walked.1 in
    let more = exact_work w (number + 1) mid new exchanges one.did.is_legal walked.2 in
    let first = one.read in
    let rest = more.rose in
    record { total = missed one.tree one.calls + more.total; are_read = (mid, walked.1, one, more.total, refl, more.are_read); rose = omega (arith, first, rest) }
