-- The reading of a head by its parts is the reading byte by byte.
use Rattle.std.proofs.Common.{◌≡◌, ℕ, ◌+◌, Bool, true, false, cond, eqb, Option, Some, None, Result, Ok, Err, List, [], ◌∷◌, ◌++◌, drop, codes, refl, sym, ap, ◌∙◌, one-add}
use Rattle.std.specs.List.{prefix_len}
use Rattle.page_pieces.specs.declared.head.HeadEnd.{HeadEnd}
use Rattle.page_pieces.specs.declared.head.Misread.{Misread}
use Rattle.page_pieces.specs.declared.head.Misread.TheVariants.{Malformed}
use Rattle.page_pieces.specs.Names.{is_white, is_name_start, is_name_byte, white_front, behind_white}
use Rattle.page_pieces.specs.Tags.{WrittenAttribute}
use Rattle.pg_text.specs.Literals.{is_quote}
use Rattle.page_pieces.specs.Texts.{after, further}
use Rattle.page_pieces.specs.ReadValue.{ends_value, takes_next, around_quote}
use Rattle.page_pieces.specs.ReadHead.{◌>>=◌, or_misread, or_cut_off, name_read, with_local_name, attribute_name_at, behind_mark, Quoted, quoted, quoted_at, attribute_behind}
use Rattle.page_pieces.proofs.AtFront.Names.{name_by, name_with}
use Rattle.page_pieces.proofs.AtFront.Marks.{after_one, behind_one, behind_one_end}
use Rattle.page_pieces.proofs.Heads.Steps.{Head, State, Between, Attribute, InAttribute, BehindFirst, AttributeLocal, InLocal, BehindName, Sign, BehindSign, Quote, Value, Go, Dead, name_step, step, run_next, run}

pub bind_both : {A B C E : Type 0} (r : Result A E) (f : A → Result B E) (g : B → Result C E) → ((r >>= f) >>= g) ≡ (r >>= (λ x. f x >>= g))
bind_both (Ok x) f g = refl
bind_both (Err e) f g = refl

pub bind_same : {A B E : Type 0} (r : Result A E) (f g : A → Result B E) → ((x : A) → f x ≡ g x) → (r >>= f) ≡ (r >>= g)
bind_same (Ok x) f g same = same x
bind_same (Err e) f g same = refl

-- bytes that lead nowhere else are passed
pub skip : (head : Head) (q then : State) (p : ℕ → Bool) → ((b : ℕ) → step head q b ≡ cond (p b) (Go q) (step head then b)) → (text : List ℕ) → run head q text ≡ run head then (drop (prefix_len p text) text)
skip head q then p same [] = refl
skip head q then p same (b ∷ text) = ap (λ n. run_next n text (λ q. run head q text)) (same b) ∙ go (p b) (skip head q then p same text)
  where
    go : (passes : Bool) → run head q text ≡ run head then (drop (prefix_len p text) text)
        → run_next (cond passes (Go q) (step head then b)) text (λ q. run head q text) ≡ run head then (drop (cond passes (1 + prefix_len p text) 0) (b ∷ text))
    go true rec = rw one-add rec
    go false rec = refl

-- a name is read
pub name_run : (head : Head) (q within then : State) → ((b : ℕ) → step head q b ≡ name_step within b) → ((b : ℕ) → step head within b ≡ cond (is_name_byte b) (Go within) (step head then b))
    → (text : List ℕ) → run head q text ≡ (name_read text >>= (λ name. run head then name.1))
name_run head q within then starts goes [] = refl
name_run head q within then starts goes (b ∷ bytes) =
    ap (λ n. run_next n bytes (λ q. run head q bytes)) (starts b)
    ∙ go (is_name_start b)
    ∙ sym (ap (λ o. or_misread (b ∷ bytes) o >>= (λ name. run head then name.1)) (name_by b bytes))
  where
    go : (here : Bool) → run_next (cond here (Go within) Dead) bytes (λ q. run head q bytes) ≡ (or_misread (b ∷ bytes) (cond here (Some (name_with b bytes)) None) >>= (λ name. run head then name.1))
    go true = skip head within then is_name_byte goes bytes
    go false = refl

-- a name with this prefix
abbrev with_first : List ℕ → List ℕ × List ℕ → Result (List ℕ × List ℕ) Misread
with_first name local = Ok (name ++ 58 ∷ local.0, local.1)

module _ (head : Head) where
  first_run : (first : List ℕ × List ℕ) → run head BehindFirst first.1 ≡ (with_local_name first.0 first.1 (after (codes ":") first.1) >>= (λ name. run head BehindName name.1))
  first_run first = by_rest first.0 first.1
    where
      colon : (name bytes : List ℕ) → run head AttributeLocal bytes ≡ ((name_read bytes >>= with_first name) >>= (λ name. run head BehindName name.1))
      colon name bytes =
          name_run head AttributeLocal InLocal BehindName (λ b. refl) (λ b. refl) bytes
          ∙ sym (bind_both (name_read bytes) (with_first name) (λ name. run head BehindName name.1))

      by_rest : (name rest : List ℕ) → run head BehindFirst rest ≡ (with_local_name name rest (after (codes ":") rest) >>= (λ name. run head BehindName name.1))
      by_rest name [] = refl
      by_rest name (b ∷ bytes) = go (eqb 58 b) ∙ sym (ap (λ o. with_local_name name (b ∷ bytes) o >>= (λ name. run head BehindName name.1)) (after_one 58 b bytes))
        where
          go : (here : Bool) → run_next (cond here (Go AttributeLocal) (step head BehindName b)) bytes (λ q. run head q bytes) ≡ (with_local_name name (b ∷ bytes) (cond here (Some bytes) None) >>= (λ name. run head BehindName name.1))
          go true = colon name bytes
          go false = refl

  attribute_name_run : (text : List ℕ) → run head Attribute text ≡ (attribute_name_at text >>= (λ name. run head BehindName name.1))
  unfolding attribute_name_at
  attribute_name_run text =
      name_run head Attribute InAttribute BehindFirst (λ b. refl) (λ b. refl) text
      ∙ bind_same (name_read text) (λ first. run head BehindFirst first.1) (λ first. with_local_name first.0 first.1 (after (codes ":") first.1) >>= (λ name. run head BehindName name.1)) first_run
      ∙ sym (bind_both (name_read text) (λ first. with_local_name first.0 first.1 (after (codes ":") first.1)) (λ name. run head BehindName name.1))

  pub one_byte_run : (q then : State) (m : ℕ) → ((b : ℕ) → step head q b ≡ cond (eqb m b) (Go then) Dead) → (text : List ℕ) → run head q text ≡ (behind_mark (m ∷ []) text >>= (λ rest. run head then rest))
  one_byte_run q then m same [] = sym (ap (λ r. r >>= (λ rest. run head then rest)) (behind_one_end m))
  one_byte_run q then m same (b ∷ bytes) =
      ap (λ n. run_next n bytes (λ q. run head q bytes)) (same b) ∙ go (eqb m b) ∙ sym (ap (λ r. r >>= (λ rest. run head then rest)) (behind_one m b bytes))
    where
      go : (here : Bool) → run_next (cond here (Go then) Dead) bytes (λ q. run head q bytes) ≡ (cond here (Ok bytes) (Err Malformed) >>= (λ rest. run head then rest))
      go true = refl
      go false = refl

  sign_run : (text : List ℕ) → run head BehindName text ≡ (behind_mark (codes "=") (behind_white text) >>= (λ rest. run head BehindSign rest))
  sign_run text = skip head BehindName Sign is_white (λ b. refl) text ∙ one_byte_run Sign BehindSign 61 (λ b. refl) (behind_white text)

  value_run : (quote : ℕ) (escaped : Bool) (text : List ℕ) → run head (Value quote escaped) text ≡ (or_cut_off (around_quote quote escaped text) >>= (λ found. run head Between found.1))
  value_run quote escaped [] = refl
  value_run quote escaped (b ∷ bytes) = go (ends_value quote escaped b) (value_run quote (takes_next escaped b) bytes)
    where
      behind : (o : Option (List ℕ × List ℕ)) → (or_cut_off o >>= (λ found. run head Between found.1)) ≡ (or_cut_off (further b o) >>= (λ found. run head Between found.1))
      behind None = refl
      behind (Some found) = refl

      go : (here : Bool) → run head (Value quote (takes_next escaped b)) bytes ≡ (or_cut_off (around_quote quote (takes_next escaped b) bytes) >>= (λ found. run head Between found.1))
          → run_next (cond here (Go Between) (Go (Value quote (takes_next escaped b)))) bytes (λ q. run head q bytes)
          ≡ (or_cut_off (cond {A = Option (List ℕ × List ℕ)} here (Some ([], bytes)) (further b (around_quote quote (takes_next escaped b) bytes))) >>= (λ found. run head Between found.1))
      go true rec = refl
      go false rec = rec ∙ behind (around_quote quote (takes_next escaped b) bytes)

  quoted_run : (text : List ℕ) → run head Quote text ≡ (quoted_at text >>= (λ found. run head Between found.rest))
  unfolding quoted_at
  quoted_run [] = refl
  quoted_run (b ∷ bytes) = go (is_quote b)
    where
      go : (here : Bool) → run_next (cond here (Go (Value b false)) Dead) bytes (λ q. run head q bytes)
          ≡ (cond here (or_cut_off (around_quote b false bytes) >>= (λ found. Ok (quoted b found))) (Err Malformed) >>= (λ found. run head Between found.rest))
      go true = value_run b false bytes ∙ sym (bind_both (or_cut_off (around_quote b false bytes)) (λ found. Ok (quoted b found)) (λ found. run head Between found.rest))
      go false = refl

  -- an attribute is read
  pub attribute_run : (gap text : List ℕ) → run head Attribute text ≡ (attribute_behind gap text >>= (λ found. run head Between found.1))
  unfolding attribute_behind
  attribute_run gap text =
      attribute_name_run text
      ∙ bind_same (attribute_name_at text) (λ name. run head BehindName name.1) (λ name. then_sign name >>= on) behind_name
      ∙ sym (bind_both (attribute_name_at text) then_sign on)
    where
      on : WrittenAttribute × List ℕ → Result (HeadEnd × List ℕ) Misread
      on found = run head Between found.1

      then_made : List ℕ × List ℕ → List ℕ → Quoted → Result (WrittenAttribute × List ℕ) Misread
      then_made name text found = Ok (record { gap = gap; name = name.0; before_sign = white_front name.1; after_sign = white_front text; quote = found.quote; value = found.value }, found.rest)

      then_quoted : List ℕ × List ℕ → List ℕ → Result (WrittenAttribute × List ℕ) Misread
      then_quoted name text = quoted_at (behind_white text) >>= then_made name text

      then_sign : List ℕ × List ℕ → Result (WrittenAttribute × List ℕ) Misread
      then_sign name = behind_mark (codes "=") (behind_white name.1) >>= then_quoted name

      behind_sign : (name : List ℕ × List ℕ) (text : List ℕ) → run head BehindSign text ≡ (then_quoted name text >>= on)
      behind_sign name text =
          skip head BehindSign Quote is_white (λ b. refl) text
          ∙ quoted_run (behind_white text)
          ∙ sym (bind_both (quoted_at (behind_white text)) (then_made name text) on)

      behind_name : (name : List ℕ × List ℕ) → run head BehindName name.1 ≡ (then_sign name >>= on)
      behind_name name =
          sign_run name.1
          ∙ bind_same (behind_mark (codes "=") (behind_white name.1)) (λ rest. run head BehindSign rest) (λ text. then_quoted name text >>= on) (behind_sign name)
          ∙ sym (bind_both (behind_mark (codes "=") (behind_white name.1)) (then_quoted name) on)
