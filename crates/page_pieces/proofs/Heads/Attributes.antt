-- The attribute at the front of a text is the one that is read.
use Rattle.std.proofs.Common.{◌≡◌, ℕ, ◌<◌, inl, inr, Bool, true, false, cond, eqb, Option, Some, None, Result, Ok, Err, List, [], ◌∷◌, ◌++◌, length, codes, refl, sym, ap, ◌∙◌, subst, arith, append_assoc}
use Rattle.std.specs.List.{list_all}
use Rattle.std.proofs.lemmas.Bool.{cond-true, cond-false, and_parts}
use Rattle.std.proofs.lemmas.List.Folds.{length-prefix_len}
use Rattle.std.proofs.lemmas.Bool.Decides.{nat_tests}
use Rattle.page_pieces.specs.declared.head.Misread.{Misread}
use Rattle.page_pieces.specs.declared.head.Misread.TheVariants.{Malformed}
use Rattle.page_pieces.specs.Names.{IsWhite, IsName, IsAttributeName, is_white, is_name_start, is_name_byte, white_len, white_front, behind_white}
use Rattle.page_pieces.specs.Marks.{name_at}
use Rattle.page_pieces.specs.Tags.{WrittenAttribute, IsWellFormed, attribute_bytes}
use Rattle.pg_text.specs.Literals.{is_quote, any_byte, Between}
use Rattle.page_pieces.specs.Texts.{after}
use Rattle.page_pieces.specs.ReadValue.{around_quote}
use Rattle.page_pieces.specs.ReadHead.{◌>>=◌, misread, or_misread, or_cut_off, name_read, with_local_name, attribute_name_at, behind_mark, Quoted, quoted, quoted_at, attribute_behind, attribute_at}
use Rattle.page_pieces.proofs.AtFront.Longest.{Stops, IsFront, front_len, front_is, front_all, front_cut}
use Rattle.page_pieces.proofs.AtFront.Names.{NameFront, name_front, name_found, white_no_name, start_is_no_mark}
use Rattle.page_pieces.proofs.AtFront.Marks.{after_one, mark_cut}
use Rattle.page_pieces.proofs.AttributeValues.Quotes.{value_front, value_found}

-- what was read first, and what was read then
pub record Bound {A B E : Type 0} (r : Result A E) (f : A → Result B E) (y : B) : Type 0 where
  pub value : A
  pub is : r ≡ Ok value
  pub then : f value ≡ Ok y

pub bound : {A B E : Type 0} (r : Result A E) (f : A → Result B E) (y : B) → (r >>= f) ≡ Ok y → Bound r f y
bound (Ok x) f y is = record { value = x; is = refl; then = is }
bound (Err e) f y is = cc

pub bind_ok : {A B E : Type 0} {r : Result A E} {x : A} (f : A → Result B E) → r ≡ Ok x → (r >>= f) ≡ f x
bind_ok f is = ap (λ r. r >>= f) is

pub ok_same : {A E : Type 0} {x y : A} → ◌≡◌ {A = Result A E} (Ok x) (Ok y) → x ≡ y
ok_same is = cc

pub not_both : {A E : Type 0} {x : A} {e : E} → ◌≡◌ {A = Result A E} (Err e) (Ok x) → ⊥
not_both is = cc

pub read_name : (text : List ℕ) (found : List ℕ × List ℕ) → name_read text ≡ Ok found → NameFront text found.0 found.1
read_name text found is = go (name_at text) refl is
  where
    go : (o : Option (List ℕ × List ℕ)) → name_at text ≡ o → or_misread text o ≡ Ok found → NameFront text found.0 found.1
    go None at is = cc
    go (Some f) at is = name_front text found.0 found.1 (at ∙ ap Some (ok_same is))

pub name_is_read : (name rest : List ℕ) → IsName name → Stops is_name_byte rest → name_read (name ++ rest) ≡ Ok (name, rest)
name_is_read name rest named stops = ap (or_misread (name ++ rest)) (name_found name rest named stops)

-- the name of an attribute, and what follows it
record AttributeNameFront (text name rest : List ℕ) : Type 0 where
  named : IsAttributeName name
  cut : text ≡ name ++ rest

after_cut : (text rest : List ℕ) → after (codes ":") text ≡ Some rest → text ≡ 58 ∷ rest
after_cut [] rest is = cc
after_cut (b ∷ bytes) rest is = go (eqb 58 b) refl (sym (after_one 58 b bytes) ∙ is)
  where
    go : (here : Bool) → eqb 58 b ≡ here → cond here (Some bytes) None ≡ Some rest → b ∷ bytes ≡ 58 ∷ rest
    go false here is = cc
    go true here is =
        let same : b ≡ 58 = grind (arith, nat_tests) in
        let behind : bytes ≡ rest = cc in
        λ i. same i ∷ behind i

read_attribute_name : (text : List ℕ) (found : List ℕ × List ℕ) → attribute_name_at text ≡ Ok found → AttributeNameFront text found.0 found.1
unfolding attribute_name_at
read_attribute_name text found is =
    let first = bound (name_read text) _ found is in
    go first.value (read_name text first.value first.is) (after (codes ":") first.value.1) refl first.then
  where
    go : (first : List ℕ × List ℕ) → NameFront text first.0 first.1 → (o : Option (List ℕ)) → after (codes ":") first.1 ≡ o → with_local_name first.0 first.1 o ≡ Ok found → AttributeNameFront text found.0 found.1
    go first front None at is = subst (λ f. AttributeNameFront text f.0 f.1) (ok_same is) (record { named = inl front.named; cut = front.cut })
    go first front (Some rest) at is =
        let local = bound (name_read rest) (λ name. Ok (first.0 ++ 58 ∷ name.0, name.1)) found is in
        let behind = read_name rest local.value local.is in
        subst (λ f. AttributeNameFront text f.0 f.1) (ok_same local.then) (record {
          named = inr (first.0, local.value.0, refl, front.named, behind.named);
          cut = front.cut ∙ ap (λ r. first.0 ++ r) (after_cut first.1 rest at ∙ ap (λ r. 58 ∷ r) behind.cut) ∙ sym (append_assoc first.0 (58 ∷ local.value.0) local.value.1);
        })

-- no colon stands there
pub no_colon : (rest : List ℕ) → Stops (eqb 58) rest → after (codes ":") rest ≡ None
no_colon [] stops = refl
no_colon (b ∷ rest) stops = after_one 58 b rest ∙ cond-false (eqb 58 b) _ _ stops

attribute_name_is_read : (name rest : List ℕ) → IsAttributeName name → Stops is_name_byte rest → Stops (eqb 58) rest → attribute_name_at (name ++ rest) ≡ Ok (name, rest)
unfolding attribute_name_at
attribute_name_is_read name rest (inl named) stops colonless =
    bind_ok (λ first. with_local_name first.0 first.1 (after (codes ":") first.1)) (name_is_read name rest named stops)
    ∙ ap (with_local_name name rest) (no_colon rest colonless)
attribute_name_is_read name rest (inr (prefix, local, is, prefixed, named)) stops colonless =
    ap attribute_name_at (ap (λ n. n ++ rest) is ∙ append_assoc prefix (58 ∷ local) rest)
    ∙ bind_ok (λ first. with_local_name first.0 first.1 (after (codes ":") first.1)) (name_is_read prefix (58 ∷ (local ++ rest)) prefixed refl)
    ∙ bind_ok (λ name. Ok (prefix ++ 58 ∷ name.0, name.1)) (name_is_read local rest named stops)
    ∙ ap (λ n. Ok (n, rest)) (sym is)

-- a value between quotes, and what follows it
record QuotedFront (text : List ℕ) (q : Quoted) : Type 0 where
  quote : is_quote q.quote ≡ true
  cut : text ≡ q.quote ∷ (q.value ++ q.quote ∷ q.rest)
  between : Between any_byte q.quote q.value

read_quoted : (text : List ℕ) (q : Quoted) → quoted_at text ≡ Ok q → QuotedFront text q
unfolding quoted_at
read_quoted [] q is = cc
read_quoted (b ∷ bytes) q is = go (is_quote b) refl (around_quote b false bytes) refl is
  where
    go : (quotes : Bool) → is_quote b ≡ quotes → (o : Option (List ℕ × List ℕ)) → around_quote b false bytes ≡ o → cond quotes (or_cut_off o >>= (λ found. Ok (quoted b found))) (Err Malformed) ≡ Ok q → QuotedFront (b ∷ bytes) q
    go false quotes o at is = cc
    go true quotes None at is = cc
    go true quotes (Some found) at is =
        let front = value_front b false bytes found.0 found.1 at in
        subst (QuotedFront (b ∷ bytes)) (ok_same is) (record { quote = quotes; cut = ap (λ t. b ∷ t) front.cut; between = front.between })

quoted_is_read : (quote : ℕ) (value rest : List ℕ) → is_quote quote ≡ true → Between any_byte quote value
    → quoted_at (quote ∷ (value ++ quote ∷ rest)) ≡ Ok (record { quote = quote; value = value; rest = rest })
unfolding quoted_at
quoted_is_read quote value rest is between =
    cond-true (is_quote quote) _ _ is
    ∙ ap (λ o. or_cut_off o >>= (λ found. Ok (quoted quote found))) (value_found quote is between rest)

-- the bytes of an attribute and what follows it
abbrev pub spelled : WrittenAttribute → List ℕ → List ℕ
spelled a rest = a.gap ++ (a.name ++ (a.before_sign ++ 61 ∷ (a.after_sign ++ a.quote ∷ (a.value ++ a.quote ∷ rest))))

pub spelled_is : (a : WrittenAttribute) (rest : List ℕ) → attribute_bytes a ++ rest ≡ spelled a rest
spelled_is a rest = simp append_assoc

-- an attribute stands at the front of a text, and this rest follows
pub record AttributeFront (text : List ℕ) (a : WrittenAttribute) (rest : List ℕ) : Type 0 where
  pub well : IsWellFormed a
  pub cut : text ≡ attribute_bytes a ++ rest

-- the attribute that is made of a name, the text behind its sign and its value
abbrev made : List ℕ → List ℕ × List ℕ → List ℕ → Quoted → WrittenAttribute × List ℕ
made gap name text found = (record { gap = gap; name = name.0; before_sign = white_front name.1; after_sign = white_front text; quote = found.quote; value = found.value }, found.rest)

attribute_made : (gap text : List ℕ) (name : List ℕ × List ℕ) (behind : List ℕ) (q : Quoted) → IsWhite gap → 0 < length gap → AttributeNameFront text name.0 name.1 → behind_white name.1 ≡ 61 ∷ behind → QuotedFront (behind_white behind) q
    → AttributeFront (gap ++ text) (made gap name behind q).0 (made gap name behind q).1
attribute_made gap text name behind q white parted front sign quoted = record {
  well = record {
    gap = white;
    parted = parted;
    name = front.named;
    before_sign = front_all is_white name.1;
    after_sign = front_all is_white behind;
    quote = quoted.quote;
    value = quoted.between;
  };
  cut =
      ap (λ t. gap ++ t) (front.cut ∙ ap (λ t. name.0 ++ t) (front_cut is_white name.1 ∙ ap (λ t. white_front name.1 ++ t) (sign ∙ ap (λ t. 61 ∷ t) (front_cut is_white behind ∙ ap (λ t. white_front behind ++ t) quoted.cut))))
      ∙ sym (spelled_is (made gap name behind q).0 (made gap name behind q).1);
}

behind_front : (gap text : List ℕ) (found : WrittenAttribute × List ℕ) → IsWhite gap → 0 < length gap → attribute_behind gap text ≡ Ok found → AttributeFront (gap ++ text) found.0 found.1
unfolding attribute_behind
behind_front gap text found white parted is =
    let name = bound (attribute_name_at text) _ found is in
    let sign = bound (behind_mark (codes "=") (behind_white name.value.1)) _ found name.then in
    let quoted = bound (quoted_at (behind_white sign.value)) _ found sign.then in
    subst (λ f. AttributeFront (gap ++ text) f.0 f.1) (ok_same {x = made gap name.value sign.value quoted.value} quoted.then)
    (attribute_made gap text name.value sign.value quoted.value white parted (read_attribute_name text name.value name.is) (mark_cut (codes "=") _ sign.value sign.is) (read_quoted _ quoted.value quoted.is))

pub attribute_front : (text : List ℕ) (found : WrittenAttribute × List ℕ) → attribute_at text ≡ Ok found → AttributeFront text found.0 found.1
unfolding attribute_at
attribute_front text found is = go (eqb (white_len text) 0) refl is
  where
    go : (none : Bool) → eqb (white_len text) 0 ≡ none → cond none (Err (misread text)) (attribute_behind (white_front text) (behind_white text)) ≡ Ok found → AttributeFront text found.0 found.1
    go true none is = cc
    go false none is =
        let some : 0 < length (white_front text) = subst (λ n. 0 < n) (sym (length-prefix_len is_white text)) (grind (arith, nat_tests)) in
        subst (λ t. AttributeFront t found.0 found.1) (sym (front_cut is_white text)) (behind_front (white_front text) (behind_white text) found (front_all is_white text) some is)

-- behind white space stands what begins with no white space
pub behind_gap : (gap text : List ℕ) → IsWhite gap → 0 < length gap → Stops is_white text → attribute_at (gap ++ text) ≡ attribute_behind gap text
unfolding attribute_at
behind_gap gap text white parted stops =
    let len = front_len is_white gap text white stops in
    let front = front_is is_white gap text white stops in
    cond-false (eqb (white_len (gap ++ text)) 0) _ _ (grind (arith, nat_tests)) ∙ (λ i. attribute_behind (front.taken i) (front.left i))

-- white space or a sign is no byte of a name, and no colon
sign_stops : (p : ℕ → Bool) (white rest : List ℕ) → ((b : ℕ) → is_white b ≡ true → p b ≡ false) → p 61 ≡ false → IsWhite white → Stops p (white ++ 61 ∷ rest)
sign_stops p [] rest fails here white = here
sign_stops p (b ∷ bytes) rest fails here white = fails b (and_parts (is_white b) (list_all is_white bytes) white).0

white_no_colon : (b : ℕ) → is_white b ≡ true → eqb 58 b ≡ false
white_no_colon b is = grind (arith, nat_tests)

quote_no_white : (b : ℕ) → is_quote b ≡ true → is_white b ≡ false
quote_no_white b is = grind (arith, nat_tests)

-- what follows the name of an attribute
abbrev behind_name : WrittenAttribute → List ℕ → List ℕ
behind_name a rest = a.before_sign ++ 61 ∷ (a.after_sign ++ a.quote ∷ (a.value ++ a.quote ∷ rest))

attribute_is_read : (a : WrittenAttribute) (rest : List ℕ) → IsWellFormed a → attribute_behind a.gap (a.name ++ behind_name a rest) ≡ Ok (a, rest)
unfolding attribute_behind behind_mark quoted_at
attribute_is_read a rest well =
    bind_ok then_sign (attribute_name_is_read a.name (behind_name a rest) well.name (sign_stops is_name_byte a.before_sign _ white_no_name refl well.before_sign) (sign_stops (eqb 58) a.before_sign _ white_no_colon refl well.before_sign))
    ∙ (λ i. behind_mark (codes "=") (before.left i) >>= then_quoted (before.taken i))
    ∙ (λ i. quoted_at (behind.left i) >>= then_made a.before_sign (behind.taken i))
    ∙ bind_ok (then_made a.before_sign a.after_sign) (quoted_is_read a.quote a.value rest well.quote well.value)
  where
    then_made : List ℕ → List ℕ → Quoted → Result (WrittenAttribute × List ℕ) Misread
    then_made before behind found = Ok (record { gap = a.gap; name = a.name; before_sign = before; after_sign = behind; quote = found.quote; value = found.value }, found.rest)

    then_quoted : List ℕ → List ℕ → Result (WrittenAttribute × List ℕ) Misread
    then_quoted before text = quoted_at (behind_white text) >>= then_made before (white_front text)

    then_sign : List ℕ × List ℕ → Result (WrittenAttribute × List ℕ) Misread
    then_sign name = behind_mark (codes "=") (behind_white name.1) >>= (λ text. quoted_at (behind_white text) >>= (λ found.
        Ok (record { gap = a.gap; name = name.0; before_sign = white_front name.1; after_sign = white_front text; quote = found.quote; value = found.value }, found.rest)))

    before : IsFront is_white (behind_name a rest) a.before_sign (61 ∷ (a.after_sign ++ a.quote ∷ (a.value ++ a.quote ∷ rest)))
    before = front_is is_white a.before_sign _ well.before_sign refl

    behind : IsFront is_white (a.after_sign ++ a.quote ∷ (a.value ++ a.quote ∷ rest)) a.after_sign (a.quote ∷ (a.value ++ a.quote ∷ rest))
    behind = front_is is_white a.after_sign _ well.after_sign (quote_no_white a.quote well.quote)

-- the first byte of a name
pub record NameBegins (text : List ℕ) : Type 0 where
  pub first : ℕ
  pub bytes : List ℕ
  pub is : text ≡ first ∷ bytes
  pub starts : is_name_start first ≡ true

pub name_begins : (name rest : List ℕ) → IsName name → NameBegins (name ++ rest)
name_begins [] rest named = cc
name_begins (b ∷ name) rest named = record { first = b; bytes = name ++ rest; is = refl; starts = (and_parts (is_name_start b) (list_all is_name_byte name) named).0 }

attribute_name_begins : (name rest : List ℕ) → IsAttributeName name → NameBegins (name ++ rest)
attribute_name_begins name rest (inl named) = name_begins name rest named
attribute_name_begins name rest (inr (prefix, local, is, prefixed, named)) =
    subst NameBegins (sym (ap (λ n. n ++ rest) is ∙ append_assoc prefix (58 ∷ local) rest)) (name_begins prefix (58 ∷ (local ++ rest)) prefixed)

-- where an attribute begins, its name stands behind the white space
pub attribute_begins : (a : WrittenAttribute) (rest : List ℕ) → IsWellFormed a → NameBegins (behind_white (attribute_bytes a ++ rest))
attribute_begins a rest well =
    let begins = attribute_name_begins a.name (behind_name a rest) well.name in
    let front = front_is is_white a.gap (a.name ++ behind_name a rest) well.gap (subst (Stops is_white) (sym begins.is) (start_is_no_mark begins.first begins.starts).white) in
    record { first = begins.first; bytes = begins.bytes; is = ap behind_white (spelled_is a rest) ∙ front.left ∙ begins.is; starts = begins.starts }

pub attribute_found : (a : WrittenAttribute) (rest : List ℕ) → IsWellFormed a → attribute_at (attribute_bytes a ++ rest) ≡ Ok (a, rest)
attribute_found a rest well =
    let begins = attribute_name_begins a.name (behind_name a rest) well.name in
    ap attribute_at (spelled_is a rest)
    ∙ behind_gap a.gap (a.name ++ behind_name a rest) well.gap well.parted (subst (Stops is_white) (sym begins.is) (start_is_no_mark begins.first begins.starts).white)
    ∙ attribute_is_read a rest well
