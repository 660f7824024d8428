-- The name of an attribute, with a prefix or without, is a front of its text.
use Rattle.std.proofs.Common.{◌≡◌, ℕ, ◌+◌, ◌<◌, Bool, true, false, cond, eqb, Some, None, Result, Ok, List, [], ◌∷◌, ◌++◌, length, take, drop, get_or, codes, refl, sym, ap, ◌∙◌, subst, arith, append_assoc, length-append, length-take, take-append-drop, IsUtf8}
use Rattle.std.proofs.Math.Seq.{get_or-append_seam, take-append_seam, drop-append_seam}
use Rattle.std.specs.List.{slice_get}
use Rattle.std.specs.Str.{IsCharBoundary}
use Rattle.std.proofs.lemmas.Str.{IsCharBoundary-after_ascii, IsCharBoundary-from_rest, IsUtf8-drop}
use Rattle.page_pieces.specs.Names.{name_len}
use Rattle.pg_text.specs.Literals.{is_quote}
use Rattle.pg_text.proofs.LiteralLemmas.{quote_ascii}
use Rattle.page_pieces.specs.Texts.{begins, after}
use Rattle.page_pieces.specs.ReadHead.{◌>>=◌, or_misread, name_read, with_local_name, attribute_name_at}
use Rattle.page_pieces.proofs.AtFront.MarkLoop.{begun}
use Rattle.page_pieces.proofs.NameLemmas.{name_cut, name_len_within}

ok_same : {A E : Type 0} {a b : A} → ◌≡◌ {A = Result A E} (Ok a) (Ok b) → a ≡ b
ok_same is = cc

-- a name and what follows it are the text, cut behind the name
pub record IsNameCut (text name rest : List ℕ) : Type 0 where
  pub cut : text ≡ name ++ rest
  pub len : length name ≡ name_len text

pub is_name_cut : (text name rest : List ℕ) → name_read text ≡ Ok (name, rest) → IsNameCut text name rest
is_name_cut text name rest is = go (eqb (name_len text) 0) is
  where
    go : (none : Bool) → or_misread {A = List ℕ × List ℕ} text (cond none None (Some (take (name_len text) text, drop (name_len text) text))) ≡ Ok (name, rest) → IsNameCut text name rest
    go true is = cc
    go false is =
        let same = ok_same is in
        let front : name ≡ take (name_len text) text = sym (ap (λ x. x.0) same) in
        let back : rest ≡ drop (name_len text) text = sym (ap (λ x. x.1) same) in
        record {
          cut = sym (take-append-drop (name_len text) text) ∙ (λ i. sym front i ++ sym back i);
          len = omega (arith, ap length front, length-take (name_len text) text, name_len_within text);
        }

behind_colon : (text rest : List ℕ) → after (codes ":") text ≡ Some rest → text ≡ 58 ∷ rest
behind_colon text rest is = go (begins (codes ":") text) refl is
  where
    go : (here : Bool) → begins (codes ":") text ≡ here → cond here (Some (drop 1 text)) None ≡ Some rest → text ≡ 58 ∷ rest
    go true here is = begun (codes ":") text here ∙ ap (λ t. 58 ∷ t) (cc)
    go false here is = cc

-- a prefix, a colon and a name: the text may be cut behind them, and they are its front
pub record IsPrefixed (text prefix local : List ℕ) : Type 0 where
  pub boundary : IsCharBoundary text (length prefix + 1 + length local)
  pub taken : take (length prefix + 1 + length local) text ≡ prefix ++ 58 ∷ local

pub is_prefixed : (text prefix rest behind local last : List ℕ) → IsUtf8 text → name_read text ≡ Ok (prefix, rest) → after (codes ":") rest ≡ Some behind → name_read behind ≡ Ok (local, last) → IsPrefixed text prefix local
is_prefixed text prefix rest behind local last utf8 first colon second =
    let one = is_name_cut text prefix rest first in
    let two = is_name_cut behind local last second in
    let whole : text ≡ prefix ++ 58 ∷ behind = one.cut ∙ ap (λ t. prefix ++ t) (behind_colon rest behind colon) in
    let size : length text ≡ length prefix + (1 + length behind) = omega (arith, ap length whole, length-append prefix (58 ∷ behind)) in
    let at : get_or text (length prefix) 0 ≡ 58 = ap (λ t. get_or t (length prefix) 0) whole ∙ get_or-append_seam prefix 58 behind 0 in
    let boundary : IsCharBoundary text (length prefix + 1) = IsCharBoundary-after_ascii text (length prefix) utf8 (omega arith) (omega arith) in
    let seam : text ≡ (prefix ++ 58 ∷ []) ++ behind = whole ∙ sym (append_assoc prefix (58 ∷ []) behind) in
    let seam_at : length (prefix ++ 58 ∷ []) ≡ length prefix + 1 = length-append prefix (58 ∷ []) in
    let left : drop (length prefix + 1) text ≡ behind = (λ i. drop (sym seam_at i) (seam i)) ∙ drop-append_seam (prefix ++ 58 ∷ []) behind in
    let behind_utf8 : IsUtf8 behind = subst IsUtf8 left (IsUtf8-drop text (length prefix + 1) utf8 boundary) in
    let there : IsCharBoundary behind (length local) = subst (IsCharBoundary behind) (sym two.len) (name_cut behind behind_utf8) in
    let all : text ≡ (prefix ++ 58 ∷ local) ++ last = whole ∙ ap (λ t. prefix ++ 58 ∷ t) two.cut ∙ sym (append_assoc prefix (58 ∷ local) last) in
    let all_len : length prefix + 1 + length local ≡ length (prefix ++ 58 ∷ local) = omega (arith, length-append prefix (58 ∷ local)) in
    record {
      boundary = IsCharBoundary-from_rest text (length prefix + 1) (length local) (omega arith) (subst (λ t. IsCharBoundary t (length local)) (sym left) there);
      taken = (λ i. take (all_len i) (all i)) ∙ take-append_seam (prefix ++ 58 ∷ local) last;
    }

-- the name that they are
pub prefixed_name : (text prefix rest behind local last : List ℕ) → name_read text ≡ Ok (prefix, rest) → after (codes ":") rest ≡ Some behind → name_read behind ≡ Ok (local, last) → attribute_name_at text ≡ Ok (prefix ++ 58 ∷ local, last)
unfolding attribute_name_at
prefixed_name text prefix rest behind local last first colon second =
    ap (λ r. r >>= (λ name. with_local_name name.0 name.1 (after (codes ":") name.1))) first
    ∙ ap (with_local_name prefix rest) colon
    ∙ ap (λ r. r >>= (λ name. Ok (prefix ++ 58 ∷ name.0, name.1))) second

-- a text may be cut behind a quote at its front
pub quote_cut : (text : List ℕ) (quote : ℕ) → IsUtf8 text → Some quote ≡ slice_get text 0 → is_quote quote ≡ true → IsCharBoundary text 1
quote_cut [] quote utf8 first is = cc
quote_cut (b ∷ bytes) quote utf8 first is = IsCharBoundary-after_ascii (b ∷ bytes) 0 utf8 (omega arith) (subst (λ c. c < 128) same (quote_ascii quote is))
  where
    same : quote ≡ b
    same = cc
