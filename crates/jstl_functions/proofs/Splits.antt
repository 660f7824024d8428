-- Tokens, one character after another.
use Rattle.std.proofs.Common.{◌≡◌, ℕ, Bool, true, false, not, cond, List, [], ◌∷◌, ◌++◌, map, filter, encode_utf8, encode_utf8_all, rules, refl, sym, ap, ◌∙◌, append_assoc, IsUtf8}
use Rattle.std.specs.List.{All, slice_split}
use Rattle.std.specs.Str.{chars}
use Rattle.std.proofs.lemmas.List.{append-nil}
use Rattle.std.proofs.lemmas.List.Elements.{All-append, All-nil}
use Rattle.std.proofs.lemmas.List.Splits.{slice_split_at, slice_split_none}
use Rattle.std.proofs.lemmas.Str.{chars_from_encodes, encodes-append}
use Rattle.jstl_functions.specs.Texts.{is_empty, kept, tokens_between}

-- the first part is kept unless it is empty
first_kept : (part : List ℕ) (parts : List (List ℕ)) → filter (λ p. not (is_empty p)) (part ∷ parts) ≡ kept part ++ filter (λ p. not (is_empty p)) parts
first_kept part parts = go (is_empty part)
  where
    go : (e : Bool) → cond (not e) (part ∷ filter (λ p. not (is_empty p)) parts) (filter (λ p. not (is_empty p)) parts) ≡ cond e [] (part ∷ []) ++ filter (λ p. not (is_empty p)) parts
    go true = refl
    go false = refl

All-one : {A : Type 0} (P : A → Type 0) (x : A) → P x → All P (x ∷ [])
All-one P x is = search (rules, is)

module _ (p : ℕ → Bool) where
  -- a part that ends at a delimiter, or at the end
  pub part_ends : (part : List ℕ) (c : ℕ) (rest : List ℕ) → All (λ d. p d ≡ false) part → p c ≡ true → tokens_between p (part ++ c ∷ rest) ≡ kept (encode_utf8_all part) ++ tokens_between p rest
  part_ends part c rest none is = ap (λ parts. filter (λ p. not (is_empty p)) (map encode_utf8_all parts)) (slice_split_at p part c rest none is) ∙ first_kept (encode_utf8_all part) (map encode_utf8_all (slice_split p rest))

  pub last_ends : (part : List ℕ) → All (λ d. p d ≡ false) part → tokens_between p part ≡ kept (encode_utf8_all part)
  last_ends part none = ap (λ parts. filter (λ p. not (is_empty p)) (map encode_utf8_all parts)) (slice_split_none p part none) ∙ first_kept (encode_utf8_all part) [] ∙ append-nil _

  -- the tokens found, a token that has begun and the bytes that are left stand for all the characters
  pub record Cut (all left : List ℕ) (found : List (List ℕ)) (token : List ℕ) : Type 0 where
    pub part : List ℕ
    pub token_is : token ≡ encode_utf8_all part
    pub none : All (λ d. p d ≡ false) part
    pub more : (rest : List ℕ) → encode_utf8_all rest ≡ left → tokens_between p all ≡ found ++ tokens_between p (part ++ rest)

  pub cut_begins : (text left : List ℕ) (found : List (List ℕ)) (token : List ℕ) → IsUtf8 text → left ≡ text → found ≡ [] → token ≡ [] → Cut (chars text) left found token
  cut_begins text left found token utf8 left_is found_is token_is = record {
    part = [];
    token_is = token_is;
    none = All-nil (λ d. p d ≡ false);
    more = λ rest is. ap (tokens_between p) (sym (chars_from_encodes rest text utf8 (is ∙ left_is))) ∙ ap (λ ts. ts ++ tokens_between p rest) (sym found_is);
  }

  -- a delimiter more
  pub cut_at : (all left behind : List ℕ) (found more_found : List (List ℕ)) (token no_token : List ℕ) (c : ℕ) → Cut all left found token → left ≡ encode_utf8 c ++ behind → p c ≡ true → more_found ≡ found ++ kept token → no_token ≡ [] → Cut all behind more_found no_token
  cut_at all left behind found more_found token no_token c cut left_is is found_is none_is = record {
    part = [];
    token_is = none_is;
    none = All-nil (λ d. p d ≡ false);
    more = λ rest rest_is.
        cut.more (c ∷ rest) (ap (λ bytes. encode_utf8 c ++ bytes) rest_is ∙ sym left_is)
        ∙ ap (λ ts. found ++ ts) (part_ends cut.part c rest cut.none is ∙ ap (λ t. kept t ++ tokens_between p rest) (sym cut.token_is))
        ∙ sym (append_assoc found (kept token) (tokens_between p rest))
        ∙ ap (λ ts. ts ++ tokens_between p rest) (sym found_is);
  }

  -- another character more
  pub cut_on : (all left behind : List ℕ) (found : List (List ℕ)) (token longer : List ℕ) (c : ℕ) → Cut all left found token → left ≡ encode_utf8 c ++ behind → p c ≡ false → longer ≡ token ++ encode_utf8 c → Cut all behind found longer
  cut_on all left behind found token longer c cut left_is is longer_is = record {
    part = cut.part ++ c ∷ [];
    token_is = longer_is ∙ ap (λ t. t ++ encode_utf8 c) cut.token_is ∙ ap (λ t. encode_utf8_all cut.part ++ t) (sym (append-nil (encode_utf8 c))) ∙ sym (encodes-append cut.part (c ∷ []));
    none = All-append (λ d. p d ≡ false) cut.part (c ∷ []) cut.none (All-one (λ d. p d ≡ false) c is);
    more = λ rest rest_is.
        cut.more (c ∷ rest) (ap (λ bytes. encode_utf8 c ++ bytes) rest_is ∙ sym left_is)
        ∙ ap (λ cs. found ++ tokens_between p cs) (sym (append_assoc cut.part (c ∷ []) rest));
  }

  -- the end
  pub cut_ends : (all left : List ℕ) (found all_found : List (List ℕ)) (token : List ℕ) → Cut all left found token → [] ≡ left → all_found ≡ found ++ kept token → all_found ≡ tokens_between p all
  cut_ends all left found all_found token cut none_left found_is =
      found_is
      ∙ ap (λ ts. found ++ ts) (ap kept cut.token_is ∙ sym (last_ends cut.part cut.none) ∙ ap (tokens_between p) (sym (append-nil cut.part)))
      ∙ sym (cut.more [] none_left)
