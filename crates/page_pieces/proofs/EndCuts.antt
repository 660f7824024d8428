-- A text that could become the end of an element.
use Rattle.std.proofs.Common.{◌≡◌, ◌⊎◌, inl, inr, ◌∙◌, ℕ, Bool, true, false, cond, eqb, arith, Option, Some, None, List, [], ◌∷◌, ◌++◌, length, drop, codes, refl, sym, ap, subst, append_assoc, append-nil}
use Rattle.std.specs.List.{list_all}
use Rattle.std.proofs.lemmas.Bool.{and_parts}
use Rattle.std.proofs.lemmas.List.{append_cancel_left, nil_from_length}
use Rattle.std.proofs.lemmas.Bool.Decides.{nat_tests}
use Rattle.std.proofs.lemmas.List.Folds.{list_all-append}
use Rattle.page_pieces.specs.Names.{IsWhite, is_white, white_front, behind_white}
use Rattle.page_pieces.specs.Texts.{begins}
use Rattle.page_pieces.specs.Tags.{end_bytes, CouldEnd}
use Rattle.page_pieces.specs.ReadEnd.{or_all, left_behind, then_left, left_behind_name}
use Rattle.page_pieces.proofs.AtFront.Longest.{front_is, front_all, front_cut}
use Rattle.page_pieces.proofs.AtFront.Marks.{begins_cut, begins_found}

-- with bytes behind it the text is the whole
pub record Continues (text whole : List ℕ) : Type 0 where
  pub next : ℕ
  pub more : List ℕ
  pub is : text ++ next ∷ more ≡ whole

-- where one text begins another
split : (text mark u v : List ℕ) → text ++ u ≡ mark ++ v → ((r : List ℕ) × (text ≡ mark ++ r)) ⊎ ((r : List ℕ) × (mark ≡ text ++ r))
split text [] u v is = inl (text, refl)
split [] (m ∷ mark) u v is = inr (m ∷ mark, refl)
split (b ∷ text) (m ∷ mark) u v is = go (split text mark u v (cc))
  where
    same : b ≡ m
    same = cc

    go : ((r : List ℕ) × (text ≡ mark ++ r)) ⊎ ((r : List ℕ) × (mark ≡ text ++ r)) → ((r : List ℕ) × (b ∷ text ≡ m ∷ mark ++ r)) ⊎ ((r : List ℕ) × (m ∷ mark ≡ b ∷ text ++ r))
    go (inl (r, cut)) = inl (r, (λ i. same i ∷ cut i))
    go (inr (r, cut)) = inr (r, (λ i. sym same i ∷ cut i))

-- what is left goes on to the tail: so the text goes on to the mark and the tail
left_on : (mark text rest tail : List ℕ) → left_behind mark text ≡ Some rest → Continues rest tail → Continues text (mark ++ tail)
unfolding left_behind
left_on mark text rest tail is on = go (begins mark text) refl is
  where
    all : (r : List ℕ) → mark ≡ text ++ r → [] ≡ rest → Continues text (mark ++ tail)
    all [] cut none = record {
      next = on.next;
      more = on.more;
      is = (λ i. text ++ on_is i) ∙ ap (λ t. t ++ tail) (sym (append-nil text) ∙ sym cut);
    }
      where
        on_is : on.next ∷ on.more ≡ tail
        on_is = ap (λ r. r ++ on.next ∷ on.more) none ∙ on.is
    all (y ∷ ys) cut none = record {
      next = y;
      more = ys ++ tail;
      is = sym (append_assoc text (y ∷ ys) tail) ∙ ap (λ t. t ++ tail) (sym cut);
    }

    some_same : {x y : List ℕ} → Some x ≡ Some y → x ≡ y
    some_same e = cc

    last : (there : Bool) → begins text mark ≡ there → cond there (Some []) None ≡ Some rest → Continues text (mark ++ tail)
    last true there e = all (drop (length text) mark) (begins_cut text mark there) (some_same e)
    last false there e = cc

    go : (here : Bool) → begins mark text ≡ here → or_all mark text (cond here (Some (drop (length mark) text)) None) ≡ Some rest → Continues text (mark ++ tail)
    go true here e = record {
      next = on.next;
      more = on.more;
      is = ap (λ t. t ++ on.next ∷ on.more) (begins_cut mark text here ∙ ap (λ r. mark ++ r) (some_same e)) ∙ append_assoc mark rest (on.next ∷ on.more) ∙ ap (λ t. mark ++ t) on.is;
    }
    go false here e = last (begins text mark) refl e

-- the text goes on to a mark and a tail that is not empty: so something is left, which goes on to the tail
pub record Left (mark text tail : List ℕ) : Type 0 where
  pub rest : List ℕ
  pub is : left_behind mark text ≡ Some rest
  pub on : Continues rest tail

left_back : (mark text tail : List ℕ) → Continues [] tail → Continues text (mark ++ tail) → Left mark text tail
unfolding left_behind
left_back mark text tail some on = go (begins mark text) refl
  where
    or_none : begins mark text ≡ false → ((r : List ℕ) × (text ≡ mark ++ r)) ⊎ ((r : List ℕ) × (mark ≡ text ++ r)) → Left mark text tail
    or_none here (inl (r, cut)) = absurd (cc (sym here ∙ ap (begins mark) cut ∙ begins_found mark r))
    or_none here (inr (r, cut)) = record {
      rest = [];
      is = ap (λ h. or_all mark text (cond h (Some (drop (length mark) text)) None)) here ∙ ap (λ t. cond t (Some []) None) (ap (begins text) cut ∙ begins_found text r);
      on = some;
    }

    go : (here : Bool) → begins mark text ≡ here → Left mark text tail
    go true here = record {
      rest = drop (length mark) text;
      is = ap (λ h. or_all mark text (cond h (Some (drop (length mark) text)) None)) here;
      on = record {
        next = on.next;
        more = on.more;
        is = append_cancel_left mark _ _ (sym (append_assoc mark (drop (length mark) text) (on.next ∷ on.more)) ∙ ap (λ t. t ++ on.next ∷ on.more) (sym (begins_cut mark text here)) ∙ on.is);
      };
    }
    go false here = or_none here (split text mark (on.next ∷ on.more) tail on.is)

-- what was left before a mark, and is left behind it
record Peeled (mark rest : List ℕ) (found : Option (List ℕ)) : Type 0 where
  before : List ℕ
  found_is : found ≡ Some before
  left : left_behind mark before ≡ Some rest

peel : (mark rest : List ℕ) (found : Option (List ℕ)) → then_left mark found ≡ Some rest → Peeled mark rest found
peel mark rest None is = cc
peel mark rest (Some before) is = record { before = before; found_is = refl; left = is }

white_end : (rest : List ℕ) → behind_white rest ≡ [] → IsWhite rest
white_end rest none = subst (λ t. list_all is_white t ≡ true) (sym (front_cut is_white rest ∙ ap (λ t. white_front rest ++ t) none ∙ append-nil (white_front rest))) (front_all is_white rest)

no_more : (xs : List ℕ) (x y : ℕ) (ys : List ℕ) → xs ++ x ∷ ys ≡ [] → ⊥
no_more [] x y ys is = cc
no_more (z ∷ xs) x y ys is = cc

end_white : (gap rest : List ℕ) → IsWhite gap → Continues rest (gap ++ codes ">") → IsWhite rest
end_white gap rest white on = go (split rest gap (on.next ∷ on.more) (codes ">") on.is)
  where
    go : ((r : List ℕ) × (rest ≡ gap ++ r)) ⊎ ((r : List ℕ) × (gap ≡ rest ++ r)) → IsWhite rest
    go (inr (r, cut)) = (and_parts (list_all is_white rest) (list_all is_white r) (sym (list_all-append is_white rest r) ∙ ap (list_all is_white) (sym cut) ∙ white)).0
    go (inl ([], cut)) = subst (λ t. list_all is_white t ≡ true) (sym (cut ∙ append-nil gap)) white
    go (inl (x ∷ xs, cut)) = absurd (no_more xs on.next 0 on.more (ap (drop 1) tail))
      where
        tail : x ∷ (xs ++ on.next ∷ on.more) ≡ codes ">"
        tail = append_cancel_left gap _ _ (sym (append_assoc gap (x ∷ xs) (on.next ∷ on.more)) ∙ ap (λ t. t ++ on.next ∷ on.more) (sym cut) ∙ on.is)

-- white space is left: so the text could become the end
pub could_from : (prefix name text rest : List ℕ) → left_behind_name prefix name text ≡ Some rest → behind_white rest ≡ [] → CouldEnd prefix name text
could_from prefix name text rest is none = record { gap = rest; white = white_end rest none; next = whole.next; more = whole.more; is = whole.is }
  where
    named : Peeled name rest (then_left (codes ":") (then_left prefix (left_behind (codes "</") text)))
    named = peel name rest _ is

    parted : Peeled (codes ":") named.before (then_left prefix (left_behind (codes "</") text))
    parted = peel (codes ":") named.before _ named.found_is

    prefixed : Peeled prefix parted.before (left_behind (codes "</") text)
    prefixed = peel prefix parted.before _ parted.found_is

    closing : Continues rest (rest ++ codes ">")
    closing = record { next = 62; more = []; is = refl }

    whole : Continues text (end_bytes (record { prefix = prefix; name = name; gap = rest }))
    whole =
        left_on (codes "</") text prefixed.before (prefix ++ (codes ":" ++ (name ++ (rest ++ codes ">")))) prefixed.found_is
        (left_on prefix prefixed.before parted.before (codes ":" ++ (name ++ (rest ++ codes ">"))) prefixed.left
        (left_on (codes ":") parted.before named.before (name ++ (rest ++ codes ">")) parted.left
        (left_on name named.before rest (rest ++ codes ">") named.left closing)))

-- something goes on
goes_on : (front tail : List ℕ) → Continues [] tail → Continues [] (front ++ tail)
goes_on [] tail on = on
goes_on (b ∷ front) tail on = record { next = b; more = front ++ tail; is = refl }

white_gone : (rest : List ℕ) → IsWhite rest → behind_white rest ≡ []
white_gone rest white = ap behind_white (sym (append-nil rest)) ∙ (front_is is_white rest [] white tt).left

-- white space alone is left of what could become the end
pub record WhiteLeft (prefix name text : List ℕ) : Type 0 where
  pub rest : List ℕ
  pub is : left_behind_name prefix name text ≡ Some rest
  pub none : behind_white rest ≡ []

pub could_back : (prefix name text : List ℕ) → CouldEnd prefix name text → WhiteLeft prefix name text
could_back prefix name text could = record {
  rest = named.rest;
  is =
      ap (λ f. then_left name (then_left (codes ":") (then_left prefix f))) opened.is
      ∙ ap (λ f. then_left name (then_left (codes ":") f)) prefixed.is
      ∙ ap (then_left name) parted.is
      ∙ named.is;
  none = white_gone named.rest (end_white could.gap named.rest could.white named.on);
}
  where
    closing : Continues [] (could.gap ++ codes ">")
    closing = goes_on could.gap (codes ">") (record { next = 62; more = []; is = refl })

    opened : Left (codes "</") text (prefix ++ (codes ":" ++ (name ++ (could.gap ++ codes ">"))))
    opened =
        left_back (codes "</") text (prefix ++ (codes ":" ++ (name ++ (could.gap ++ codes ">")))) (goes_on prefix _ (goes_on (codes ":") _ (goes_on name _ closing)))
        (record { next = could.next; more = could.more; is = could.is })

    prefixed : Left prefix opened.rest (codes ":" ++ (name ++ (could.gap ++ codes ">")))
    prefixed = left_back prefix opened.rest (codes ":" ++ (name ++ (could.gap ++ codes ">"))) (goes_on (codes ":") _ (goes_on name _ closing)) opened.on

    parted : Left (codes ":") prefixed.rest (name ++ (could.gap ++ codes ">"))
    parted = left_back (codes ":") prefixed.rest (name ++ (could.gap ++ codes ">")) (goes_on name _ closing) prefixed.on

    named : Left name parted.rest (could.gap ++ codes ">")
    named = left_back name parted.rest (could.gap ++ codes ">") closing parted.on

-- whether nothing but white space is left decides it
pub decides_yes : (prefix name text rest : List ℕ) → Some rest ≡ left_behind_name prefix name text → eqb (length (behind_white rest)) 0 ≡ true → CouldEnd prefix name text
decides_yes prefix name text rest is empty =
    let none : length (behind_white rest) ≡ 0 = grind (arith, nat_tests) in
    could_from prefix name text rest (sym is) (nil_from_length (behind_white rest) none)

pub decides_no : (prefix name text rest : List ℕ) → Some rest ≡ left_behind_name prefix name text → CouldEnd prefix name text → eqb (length (behind_white rest)) 0 ≡ true
decides_no prefix name text rest is could =
    let left = could_back prefix name text could in
    let same : rest ≡ left.rest = cc (is ∙ left.is) in
    ap (λ t. eqb (length t) 0) (ap behind_white same ∙ left.none)

pub decides_none : (prefix name text : List ℕ) → None ≡ left_behind_name prefix name text → ¬ (CouldEnd prefix name text)
decides_none prefix name text is could = cc (is ∙ (could_back prefix name text could).is)
