-- A history that ends by its Roll, and the place of the first entry that isn't legal.
use Rattle.std.proofs.Common.{◌≡◌, ℕ, ◌-◌, true, false, List, [], ◌∷◌, ◌++◌, length, take, refl, sym, ap, subst, ◌∙◌, append_assoc, length-append, arith}
use Rattle.right_journal.specs.Right.{FailsAt, unrolled}
use Rattle.site_journal.specs.Reading.{EndsByRoll, is_roll}
use Rattle.site_words.proofs.Legal.{legal_push}
use Rattle.site_words.specs.Law.{Follows, Legal}
use Rattle.site_words.specs.State.{after}
use Rattle.site_words.specs.Trees.{Each, Needs}
use Rattle.site_words.specs.declared.words.Entry.{Entry}
use Rattle.site_words.specs.declared.words.Opening.{Opening}

abbrev pub Acts : Entry → Type 0
Acts e = is_roll e ≡ false

-- the last entry is a Roll, and those before it aren't
pub front_acts : (front : List Entry) (last : Entry) → EndsByRoll (front ++ last ∷ []) → Each Acts front
front_acts [] last ends = tt
front_acts (e ∷ []) last ends = (ends.0, tt)
front_acts (e ∷ f ∷ front) last ends = (ends.0, front_acts (f ∷ front) last ends.1)

pub last_rolls : (front : List Entry) (last : Entry) → EndsByRoll (front ++ last ∷ []) → is_roll last ≡ true
last_rolls [] last ends = ends
last_rolls (e ∷ []) last ends = ends.1
last_rolls (e ∷ f ∷ front) last ends = last_rolls (f ∷ front) last ends.1

take_front : (front : List Entry) (last : Entry) → take (length front) (front ++ last ∷ []) ≡ front
take_front [] last = refl
take_front (e ∷ front) last = ap (λ more. e ∷ more) (take_front front last)

pub unrolled_is : (history front : List Entry) (last : Entry) → history ≡ front ++ last ∷ [] → unrolled history ≡ front
unrolled_is history front last is =
    let long : length history - 1 ≡ length front = let l = ap length is in let m = length-append front (last ∷ []) in omega (arith, l, m) in
    ap (λ n. take n history) long ∙ ap (take (length front)) is ∙ take_front front last

-- the front is legal, and the entry behind it doesn't follow
pub fails_at : (needs : Needs) (x : Opening) (history front : List Entry) (e : Entry) (back : List Entry) (place : ℕ) → history ≡ front ++ e ∷ back → place ≡ length front → Legal needs x front
    → (Follows needs x (after needs x front) e → ⊥) → FailsAt needs x history place
fails_at needs x history front e back place is at legal fails = record { front = front; entry = e; back = back; is = is; at = sym at; legal = legal; fails = fails }

-- the front is legal, and so is its Roll
pub all_legal : (needs : Needs) (x : Opening) (history front : List Entry) (last : Entry) → history ≡ front ++ last ∷ [] → Legal needs x front → Follows needs x (after needs x front) last → Legal needs x history
all_legal needs x history front last is legal follows = subst (Legal needs x) (sym is) (legal_push needs x front last legal follows)

-- one entry of the rest is done
pub split_next : (history front : List Entry) (e : Entry) (rest : List Entry) (last : Entry) → history ≡ front ++ ((e ∷ rest) ++ (last ∷ [])) → history ≡ (front ++ (e ∷ [])) ++ (rest ++ (last ∷ []))
split_next history front e rest last is = is ∙ sym (append_assoc front (e ∷ []) (rest ++ (last ∷ [])))

pub split_first : (history entries popped rest site : List Entry) (last : Entry) → site ≡ [] → entries ≡ history → entries ≡ popped ++ (last ∷ []) → rest ≡ popped → history ≡ site ++ (rest ++ (last ∷ []))
split_first history entries popped rest site last empty same is rest_is =
    sym same ∙ is ∙ ap (λ l. l ++ (last ∷ [])) (sym rest_is) ∙ ap (λ s. s ++ (rest ++ (last ∷ []))) (sym empty)

pub split_last : (history site rest : List Entry) (last : Entry) → history ≡ site ++ (rest ++ (last ∷ [])) → rest ≡ [] → history ≡ site ++ (last ∷ [])
split_last history site rest last is none = is ∙ ap (λ r. site ++ (r ++ (last ∷ []))) none

pub legal_behind : (needs : Needs) (x y : Opening) (history front : List Entry) (last : Entry) → y ≡ x → history ≡ front ++ (last ∷ []) → Legal needs y front → Follows needs y (after needs y front) last → Legal needs x history
legal_behind needs x y history front last same is legal follows = subst (λ z. Legal needs z history) same (all_legal needs y history front last is legal follows)

pub fails_behind : (needs : Needs) (x y : Opening) (history front : List Entry) (last : Entry) (place : ℕ) → y ≡ x → history ≡ front ++ (last ∷ []) → place ≡ length front → Legal needs y front
    → (Follows needs y (after needs y front) last → ⊥) → FailsAt needs x history place
fails_behind needs x y history front last place same is at legal fails = subst (λ z. FailsAt needs z history place) same (fails_at needs y history front last [] place is at legal fails)
