-- Where one pass alone acts, a request has one list of turns.
use Rattle.std.proofs.Common.{◌≡◌, ℕ, ◌+◌, true, false, List, [], ◌∷◌, ◌++◌, refl, sym, ap, subst, ◌∙◌, append_assoc, append-nil}
use Rattle.std.proofs.lemmas.List.{map-append}
use Rattle.std.specs.List.{fold, list_all}
use Rattle.edges.specs.declared.acted.Acted.{Acted}
use Rattle.edges.specs.declared.acted.Acted.TheVariants.{Did}
use Rattle.talk_law.proofs.Alone.{entries_by, entry_by}
use Rattle.talk_law.proofs.Steps.{Ends, next_step, no_more}
use Rattle.page_answers.specs.Turns.{Turn, all_calls, calls_of, hit, is_whole, made, missed, step_of, stepped}
use Rattle.page_meaning.specs.Laws.{RequestGoesOn}
use Rattle.page_meaning.specs.Response.{Answered}
use Rattle.site_words.proofs.Items.{and_left, and_right}
use Rattle.site_words.proofs.Legal.{legal_rest}
use Rattle.site_words.specs.Law.{Answer, LegalFrom}
use Rattle.site_words.specs.State.{State, moved}
use Rattle.site_words.specs.Step.{step}
use Rattle.site_words.specs.Trees.{Needs}
use Rattle.site_words.specs.declared.words.Entry.{Entry}
use Rattle.site_words.specs.declared.words.Op.TheVariants as op
use Rattle.site_words.specs.declared.words.Opening.{Opening}
use Rattle.site_words.specs.declared.words.Refusal.{Refusal}
use Rattle.site_words.specs.declared.words.Reply.{Reply}
use Rattle.site_words.specs.declared.words.Reply.TheVariants as reply

-- an operation has one reply
pub one_reply : (a : Acted Reply Refusal) (r q : Reply) → a ≡ Did r → a ≡ Did q → r ≡ q
one_reply a r q first second = let same : Did r ≡ Did q = sym first ∙ second in cc

module _ (needs : Needs) (x : Opening) (pass number : ℕ) where
  abbrev pub entries_of : List Turn → List Entry
  entries_of turns = entries_by pass (all_calls number turns)

  entries_first : (v : Turn) (turns : List Turn) (last : List Entry) → entries_of (v ∷ turns) ++ last ≡ entries_by pass (calls_of number v) ++ (entries_of turns ++ last)
  entries_first v turns last =
      ap (λ es. es ++ last) (map-append (entry_by pass) (calls_of number v) (all_calls number turns)) ∙ append_assoc (entries_by pass (calls_of number v)) (entries_of turns) last

  -- from one state a step has one turn
  one_turn : (s : State) (v w : Turn) (rest more : List Entry) → is_whole v ≡ true → is_whole w ≡ true → step_of v ≡ step_of w
      → LegalFrom needs x s (entries_by pass (calls_of number v) ++ rest) → LegalFrom needs x s (entries_by pass (calls_of number w) ++ more) → v ≡ w
  one_turn s (stepped a r) (stepped b q) rest more whole also same first second =
      let is : a ≡ b = cc in
      let there : step needs x s pass (op.App number a) ≡ Did (reply.App q) = subst (λ z. step needs x s pass (op.App number z) ≡ Did (reply.App q)) (sym is) second.0.did in
      let replies : reply.App r ≡ reply.App q = one_reply (step needs x s pass (op.App number a)) (reply.App r) (reply.App q) first.0.did there in
      let told : r ≡ q = cc in
      ap (λ z. stepped z r) is ∙ ap (stepped b) told
  one_turn s (made j) (made k) rest more whole also same first second =
      let replies : reply.Made j ≡ reply.Made k = one_reply (step needs x s pass (op.Fresh number)) (reply.Made j) (reply.Made k) first.0.did second.0.did in
      let is : j ≡ k = cc in
      ap made is
  one_turn s (hit p) (hit q) rest more whole also same first second = let is : p ≡ q = cc in ap hit is
  one_turn s (hit p) (missed q k) rest more whole also same first second =
      let is : p ≡ q = cc in
      let there : step needs x s pass (op.Fetch number p) ≡ Did (reply.Fetched false) = subst (λ z. step needs x s pass (op.Fetch number z) ≡ Did (reply.Fetched false)) (sym is) second.0.did in
      let replies : reply.Fetched true ≡ reply.Fetched false = one_reply (step needs x s pass (op.Fetch number p)) (reply.Fetched true) (reply.Fetched false) first.0.did there in
      absurd (cc)
  one_turn s (missed p j) (hit q) rest more whole also same first second =
      let is : p ≡ q = cc in
      let there : step needs x s pass (op.Fetch number p) ≡ Did (reply.Fetched true) = subst (λ z. step needs x s pass (op.Fetch number z) ≡ Did (reply.Fetched true)) (sym is) second.0.did in
      let replies : reply.Fetched false ≡ reply.Fetched true = one_reply (step needs x s pass (op.Fetch number p)) (reply.Fetched false) (reply.Fetched true) first.0.did there in
      absurd (cc)
  one_turn s (missed p j) (missed q k) rest more whole also same first second =
      let is : p ≡ q = cc in
      let found : ℕ → List ℕ → State = λ n path. moved needs x s (entry_by pass (op.Fetch n path, reply.Fetched false)) in
      let there : step needs x (found number p) pass (op.Offer number p) ≡ Did (reply.Offered k) = subst (λ z. step needs x (found number z) pass (op.Offer number z) ≡ Did (reply.Offered k)) (sym is) second.1.0.did in
      let replies : reply.Offered j ≡ reply.Offered k = one_reply (step needs x (found number p) pass (op.Offer number p)) (reply.Offered j) (reply.Offered k) first.1.0.did there in
      let kept : j ≡ k = cc in
      ap (λ z. missed z j) is ∙ ap (missed q) kept
  one_turn s v w rest more whole also same first second = absurd (cc)

  module _ (resp : List Answer → Answered) (goes : (answers more : List Answer) → RequestGoesOn more (resp answers) (resp (answers ++ more)))
      (seed : List ℕ) where
    -- the turns behind those that both have
    rest_of_turns : (t u c : List Turn) (s : State) (last other : List Entry) → Ends resp seed (c ++ t) → Ends resp seed (c ++ u) → list_all is_whole t ≡ true → list_all is_whole u ≡ true
        → LegalFrom needs x s (entries_of t ++ last) → LegalFrom needs x s (entries_of u ++ other) → t ≡ u
    rest_of_turns [] [] c s last other a b whole also first second = refl
    rest_of_turns [] (w ∷ u) c s last other a b whole also first second = absurd (no_more resp goes seed c u w (subst (Ends resp seed) (append-nil c) a) b)
    rest_of_turns (v ∷ t) [] c s last other a b whole also first second = absurd (no_more resp goes seed c t v (subst (Ends resp seed) (append-nil c) b) a)
    rest_of_turns (v ∷ t) (w ∷ u) c s last other a b whole also first second =
        let begun = subst (LegalFrom needs x s) (entries_first v t last) first in
        let began = subst (LegalFrom needs x s) (entries_first w u other) second in
        let turn = one_turn s v w (entries_of t ++ last) (entries_of u ++ other) (and_left (is_whole v) (list_all is_whole t) whole) (and_left (is_whole w) (list_all is_whole u) also)
        (next_step resp goes seed c t u v w a b) begun began in
        let here : State = fold (moved needs x) s (entries_by pass (calls_of number v)) in
        let one : LegalFrom needs x here (entries_of t ++ last) = legal_rest needs x s (entries_by pass (calls_of number v)) (entries_of t ++ last) begun in
        let two : LegalFrom needs x here (entries_of u ++ other)
        = legal_rest needs x s (entries_by pass (calls_of number v)) (entries_of u ++ other) (subst (λ z. LegalFrom needs x s (entries_by pass (calls_of number z) ++ (entries_of u ++ other))) (sym turn) began) in
        let more = rest_of_turns t u (c ++ v ∷ []) here last other (subst (Ends resp seed) (sym (append_assoc c (v ∷ []) t)) a)
        (subst (Ends resp seed) (sym (append_assoc c (v ∷ []) u)) (subst (λ z. Ends resp seed (c ++ z ∷ u)) (sym turn) b))
        (and_right (is_whole v) (list_all is_whole t) whole) (and_right (is_whole w) (list_all is_whole u) also) one two in
        ap (λ z. z ∷ t) turn ∙ ap (λ ts. w ∷ ts) more

    -- all turns of a request
    pub one_course : (t u : List Turn) (s : State) (last other : List Entry) → Ends resp seed t → Ends resp seed u → list_all is_whole t ≡ true → list_all is_whole u ≡ true
        → LegalFrom needs x s (entries_of t ++ last) → LegalFrom needs x s (entries_of u ++ other) → t ≡ u
    one_course t u s last other a b whole also first second = rest_of_turns t u [] s last other a b whole also first second
