-- A mark at the front of a text.
use Rattle.std.proofs.Common.{◌≡◌, ℕ, ◌&&◌, Bool, true, false, cond, eqb, Some, None, Result, Ok, Err, List, [], ◌∷◌, ◌++◌, length, drop, refl, ap, ◌∙◌, arith}
use Rattle.std.proofs.lemmas.Bool.Decides.{nat_tests, Decides-eqb}
use Rattle.std.proofs.lemmas.Slice.Eq.{starts_is}
use Rattle.page_pieces.specs.declared.head.Misread.{Misread}
use Rattle.page_pieces.specs.declared.head.Misread.TheVariants.{CutOff, Malformed}
use Rattle.page_pieces.specs.Texts.{begins, after}
use Rattle.page_pieces.specs.ReadHead.{behind_mark}

pub begins_cut : (mark text : List ℕ) → begins mark text ≡ true → text ≡ mark ++ drop (length mark) text
begins_cut mark text is = (starts_is Decides-eqb text mark (begins mark text) refl).0 is

pub begins_found : (mark rest : List ℕ) → begins mark (mark ++ rest) ≡ true
begins_found mark rest = (starts_is Decides-eqb (mark ++ rest) mark (begins mark (mark ++ rest)) refl).1 rest refl

and_true : (b : Bool) → (b && true) ≡ b
and_true true = refl
and_true false = refl

-- whether a mark of one byte stands there
pub begins_one : (m b : ℕ) (bytes : List ℕ) → begins (m ∷ []) (b ∷ bytes) ≡ eqb m b
begins_one m b bytes = and_true (eqb m b)

pub after_one : (m b : ℕ) (bytes : List ℕ) → after (m ∷ []) (b ∷ bytes) ≡ cond (eqb m b) (Some bytes) None
after_one m b bytes = ap (λ t. cond t (Some bytes) None) (begins_one m b bytes)

pub after_cut : (mark text rest : List ℕ) → after mark text ≡ Some rest → text ≡ mark ++ rest
after_cut mark text rest is = go (begins mark text) refl is
  where
    go : (here : Bool) → begins mark text ≡ here → cond here (Some (drop (length mark) text)) None ≡ Some rest → text ≡ mark ++ rest
    go true here is =
        let same : drop (length mark) text ≡ rest = cc in
        begins_cut mark text here ∙ ap (λ r. mark ++ r) same
    go false here is = cc

-- what follows a mark that stands there
pub mark_cut : (mark text rest : List ℕ) → behind_mark mark text ≡ Ok rest → text ≡ mark ++ rest
unfolding behind_mark
mark_cut mark text rest is = go (begins mark text) refl is
  where
    none : (here : Bool) → cond {A = Result (List ℕ) Misread} here (Err CutOff) (Err Malformed) ≡ Ok rest → text ≡ mark ++ rest
    none true is = cc
    none false is = cc

    go : (here : Bool) → begins mark text ≡ here → cond here (Ok (drop (length mark) text)) (cond (begins text mark) (Err CutOff) (Err Malformed)) ≡ Ok rest → text ≡ mark ++ rest
    go true here is =
        let same : drop (length mark) text ≡ rest = cc in
        begins_cut mark text here ∙ ap (λ r. mark ++ r) same
    go false here is = none (begins text mark) is

same_test : (m b : ℕ) → eqb b m ≡ eqb m b
same_test m b = go (eqb m b) refl (eqb b m) refl
  where
    go : (there : Bool) → eqb m b ≡ there → (here : Bool) → eqb b m ≡ here → here ≡ there
    go true there true here = refl
    go false there false here = refl
    go true there false here = absurd (grind (arith, nat_tests))
    go false there true here = absurd (grind (arith, nat_tests))

-- a mark of one byte is read
pub behind_one : (m b : ℕ) (bytes : List ℕ) → behind_mark (m ∷ []) (b ∷ bytes) ≡ cond (eqb m b) (Ok bytes) (Err Malformed)
unfolding behind_mark
behind_one m b bytes = ap (λ e. cond (eqb m b && true) (Ok bytes) (cond (e && begins bytes []) (Err CutOff) (Err Malformed))) (same_test m b) ∙ go (eqb m b) (begins bytes [])
  where
    go : (there more : Bool) → cond (there && true) (Ok bytes) (cond (there && more) (Err CutOff) (Err Malformed)) ≡ cond there (Ok bytes) (Err Malformed)
    go true more = refl
    go false more = refl

pub behind_one_end : (m : ℕ) → behind_mark (m ∷ []) [] ≡ Err CutOff
unfolding behind_mark
behind_one_end m = refl

-- and one of two bytes
pub behind_two : (m n b c : ℕ) (bytes : List ℕ) → behind_mark (m ∷ n ∷ []) (b ∷ c ∷ bytes) ≡ cond (eqb m b) (cond (eqb n c) (Ok bytes) (Err Malformed)) (Err Malformed)
unfolding behind_mark
behind_two m n b c bytes =
    (λ i. cond (eqb m b && (eqb n c && true)) (Ok bytes) (cond (same_test m b i && (same_test n c i && begins bytes [])) (Err CutOff) (Err Malformed))) ∙ go (eqb m b) (eqb n c) (begins bytes [])
  where
    go : (first second more : Bool) → cond (first && (second && true)) (Ok bytes) (cond (first && (second && more)) (Err CutOff) (Err Malformed)) ≡ cond first (cond second (Ok bytes) (Err Malformed)) (Err Malformed)
    go true true more = refl
    go true false more = refl
    go false second more = refl

pub behind_two_cut : (m n b : ℕ) → behind_mark (m ∷ n ∷ []) (b ∷ []) ≡ cond (eqb m b) (Err CutOff) (Err Malformed)
unfolding behind_mark
behind_two_cut m n b = ap (λ e. cond {A = Result (List ℕ) Misread} (eqb m b && false) (Ok []) (cond (e && true) (Err CutOff) (Err Malformed))) (same_test m b) ∙ go (eqb m b)
  where
    go : (there : Bool) → cond {A = Result (List ℕ) Misread} (there && false) (Ok []) (cond (there && true) (Err CutOff) (Err Malformed)) ≡ cond there (Err CutOff) (Err Malformed)
    go true = refl
    go false = refl

pub behind_two_end : (m n : ℕ) → behind_mark (m ∷ n ∷ []) [] ≡ Err CutOff
unfolding behind_mark
behind_two_end m n = refl
