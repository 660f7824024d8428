-- The site of its own on which a preview runs.
use Rattle.std.proofs.Common.{◌≡◌, ◌⊎◌, ◌≤◌, ℕ, zero, suc, ◌+◌, ◌*◌, ◌/◌, ◌%◌, Bool, true, inr, List, [], ◌∷◌, ◌++◌, length, Option, Some, None, codes, refl, sym, subst, ◌∙◌, arith, lit<, length-append}
use Rattle.std.specs.Prelude.{slice_index}
use Rattle.conversation.proofs.ServedLemmas.{served_map}
use Rattle.conversation.specs.Exchange.{Exchange}
use Rattle.conversation.specs.Served.{Served}
use Rattle.conversation.specs.declared.desk.Outcome.{Outcome}
use Rattle.http_in.specs.declared.limits.TheConstants.{SESSION_ID_BYTES}
use Rattle.http_in.specs.declared.request.Request.{Request}
use Rattle.http_out.specs.Methods.{takes_method}
use Rattle.page_answers.specs.Answers.{Answers}
use Rattle.page_answers.specs.Dropped.{Drops}
use Rattle.page_answers.specs.Standing.{standing_of}
use Rattle.compiled_pages.specs.Pages.{needs_at}
use Rattle.pass_course.specs.Course.{IsIdle}
use Rattle.preview_words.proofs.AnsweredLemmas.{answered}
use Rattle.preview_words.specs.Own.{Picture, own_cookie, own_opening, own_request, own_seed}
use Rattle.preview_words.specs.Shown.{IsRun, IsRunDropped, IsSilent, ServedRun, no_time}
use Rattle.site_words.specs.Ids.{hex_digits, id_of, word_of}
use Rattle.site_words.specs.Invariants.{AllRest}
use Rattle.site_words.specs.declared.words.Entry.{Entry}
use Rattle.site_words.specs.declared.words.Opening.{Opening}
use Rattle.source_tree.specs.declared.file.File.{File}

digits_long : (count n : ℕ) → length (hex_digits count n) ≡ count
digits_long zero n = refl
digits_long (suc count) n =
    length-append (hex_digits count (n / 16)) (slice_index (codes "0123456789abcdef") (n % 16) ∷ []) ∙ (let same = digits_long count (n / 16) in let one : length (hex_digits count (n / 16)) + 1 ≡ suc count = omega arith in one)

id_long : (seed : List ℕ) (number : ℕ) → length (id_of seed number) ≡ 48
id_long seed number =
    let a = hex_digits 16 number in
    let b = hex_digits 8 (word_of seed (4 * number)) in
    let d = hex_digits 8 (word_of seed (4 * number + 1)) in
    let e = hex_digits 8 (word_of seed (4 * number + 2)) in
    let f = hex_digits 8 (word_of seed (4 * number + 3)) in
    all_long a b d e f (digits_long 16 number) (digits_long 8 (word_of seed (4 * number))) (digits_long 8 (word_of seed (4 * number + 1))) (digits_long 8 (word_of seed (4 * number + 2))) (digits_long 8 (word_of seed (4 * number + 3)))
  where
    all_long : (a b d e f : List ℕ) → length a ≡ 16 → length b ≡ 8 → length d ≡ 8 → length e ≡ 8 → length f ≡ 8 → length (a ++ b ++ d ++ e ++ f) ≡ 48
    all_long a b d e f one two three four five =
        let ab : length (a ++ b) ≡ length a + length b = length-append a b in
        let abd : length (a ++ b ++ d) ≡ length (a ++ b) + length d = length-append (a ++ b) d in
        let abde : length (a ++ b ++ d ++ e) ≡ length (a ++ b ++ d) + length e = length-append (a ++ b ++ d) e in
        let abdef : length (a ++ b ++ d ++ e ++ f) ≡ length (a ++ b ++ d ++ e) + length f = length-append (a ++ b ++ d ++ e) f in
        omega arith

-- its session's id is one
pub short_cookie : (session : Option ℕ) → length (own_cookie session) ≤ SESSION_ID_BYTES
short_cookie None = omega arith
short_cookie (Some number) = let long = id_long own_seed 0 in let short : length (id_of own_seed 0) ≤ SESSION_ID_BYTES = omega arith in short

-- no request is under way on it
pub own_rests : (tree : List File) (picture : Picture) (x : Opening) (history : List Entry) → x ≡ own_opening tree picture → history ≡ [] → AllRest x history
own_rests tree picture x history opening none = subst (λ (entries : List Entry). AllRest x entries) (sym none) (λ k within. refl)

pub own_idle : (tree : List File) (picture : Picture) (x : Opening) (history : List Entry) → x ≡ own_opening tree picture → history ≡ [] → IsIdle x 0 history
own_idle tree picture x history opening none =
    subst (λ (entries : List Entry). IsIdle x 0 entries) (sym none) (subst (λ (y : Opening). IsIdle y 0 []) (sym opening) (lit< tt, refl))

-- what is answered on it is what running a request comes to
pub run_on : (tree : List File) (picture : Picture) (close : Bool) (request : Request) (steps later before after : ℕ) (taken now : Option (List ℕ)) (answer : Outcome) (x : Opening) (history history' : List Entry) (cookie : List ℕ) → takes_method request.method ≡ true
    → x ≡ own_opening tree picture → history ≡ [] → cookie ≡ own_cookie picture.session
    → Served (λ close old (e : Exchange) new. Answers needs_at x 0 e.request close old e.text e.broken new) (λ close old asked text new. Drops needs_at x 0 asked close old text new)
    close (record request { cookie = cookie }) (standing_of history no_time steps) (standing_of history' no_time later) before after taken now answer
    → ServedRun needs_at (own_opening tree picture) picture.session close request steps later before after taken now answer
run_on tree picture close request steps later before after taken now answer x history history' cookie takes opening none id served =
    let own : Opening = own_opening tree picture in
    let session : Option ℕ = picture.session in
    served_map (λ close old (e : Exchange) new. Answers needs_at own 0 e.request close old e.text e.broken new) (λ close old asked text new. Drops needs_at own 0 asked close old text new)
    (λ close steps (e : Exchange) later. IsRun needs_at own session e.request close steps e.text e.broken later)
    (λ close steps request text later. IsSilent steps text later ⊎ IsRunDropped needs_at own session request close steps text later)
    close (own_request session request) request (standing_of [] no_time steps) (standing_of history' no_time later) steps later before after taken now answer
    (λ text broken is. record { history = history'; answers = answered needs_at tree picture request close steps text broken history' later takes is }) (λ text is. inr (record { history = history'; drops = is }))
    (subst (λ (y : Opening). Served (λ close old (e : Exchange) new. Answers needs_at y 0 e.request close old e.text e.broken new) (λ close old asked text new. Drops needs_at y 0 asked close old text new) close (own_request session request)
    (standing_of [] no_time steps) (standing_of history' no_time later) before after taken now answer) opening
    (subst (λ (entries : List Entry). Served (λ close old (e : Exchange) new. Answers needs_at x 0 e.request close old e.text e.broken new) (λ close old asked text new. Drops needs_at x 0 asked close old text new) close (own_request session request)
    (standing_of entries no_time steps) (standing_of history' no_time later) before after taken now answer) none
    (subst (λ (sent : List ℕ). Served (λ close old (e : Exchange) new. Answers needs_at x 0 e.request close old e.text e.broken new) (λ close old asked text new. Drops needs_at x 0 asked close old text new) close (record request { cookie = sent })
    (standing_of history no_time steps) (standing_of history' no_time later) before after taken now answer) id served)))
