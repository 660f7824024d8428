-- How a text that a sink takes goes on.
use Rattle.std.proofs.Common.{◌≡◌, ◌<◌, ◌+◌, ℕ, Bool, true, false, List, [], ◌∷◌, ◌++◌, length, take, Option, sym, ap, subst, suc, ◌∙◌, append_assoc, arith, length-append}
use Rattle.std.proofs.lemmas.List.{take-append-le}
use Rattle.std.specs.Io.KnownBytes.{Appends}
use Rattle.edges.proofs.ToldBytes.{appends_both, appends_none}
use Rattle.http_out.specs.Sent.{Sent, SentAfter}

take-front : (xs ys : List ℕ) (n : ℕ) → xs ++ take n ys ≡ take (length xs + n) (xs ++ ys)
take-front [] ys n = ap (λ k. take k ys) (let e : n ≡ 0 + n = omega arith in e)
take-front (x ∷ xs) ys n =
    ap (λ l. x ∷ l) (take-front xs ys n) ∙ ap (λ k. take k (x ∷ (xs ++ ys))) (let e : suc (length xs + n) ≡ length (x ∷ xs) + n = omega arith in e)

-- nothing was to be sent yet
pub sent_none : (taken : Option (List ℕ)) → Sent taken taken [] false
sent_none taken = appends_none taken

-- all so far, and then more
pub sent_more : (old mid new : Option (List ℕ)) (text more : List ℕ) (failed : Bool) → Appends old mid text → Sent mid new more failed → Sent old new (text ++ more) failed
sent_more old mid new text more false was wrote = appends_both old mid new text more was wrote
sent_more old mid new text more true was wrote = (
  length text + wrote.0,
  (let l = length-append text more in let w : wrote.0 < length more = wrote.1 in omega arith),
  subst (λ all. Appends old new all) (take-front text more wrote.0) (appends_both old mid new text (take wrote.0 more) was wrote.2),
)

-- where the sink failed before, the longer text is broken off too
pub sent_over : (old new : Option (List ℕ)) (text more : List ℕ) → Sent old new text true → Sent old new (text ++ more) true
sent_over old new text more was = (
  was.0,
  (let l = length-append text more in let w : was.0 < length text = was.1 in omega arith),
  subst (λ all. Appends old new all) (sym (take-append-le was.0 text more (let w : was.0 < length text = was.1 in omega arith))) was.2,
)

-- a text behind a front
pub sent_after : (old mid new : Option (List ℕ)) (front text : List ℕ) (failed : Bool) → Appends old mid front → Sent mid new text failed → SentAfter old new front text failed
sent_after old mid new front text false was wrote = appends_both old mid new front text was wrote
sent_after old mid new front text true was wrote = record { count = wrote.0; within = wrote.1; written = appends_both old mid new front (take wrote.0 text) was wrote.2 }

-- three parts behind a text
pub three_behind : (text first second third : List ℕ) → ((text ++ first) ++ second) ++ third ≡ text ++ ((first ++ second) ++ third)
three_behind text first second third = ap (λ front. front ++ third) (append_assoc text first second) ∙ append_assoc text (first ++ second) third

-- two parts behind a front and a text, of which the first is joined with the front
pub joined_behind : (text front first second : List ℕ) → (text ++ (front ++ first)) ++ second ≡ text ++ (front ++ (first ++ second))
joined_behind text front first second = append_assoc text (front ++ first) second ∙ ap (λ rest. text ++ rest) (append_assoc front first second)
