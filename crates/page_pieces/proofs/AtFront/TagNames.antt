-- The prefix and the name of an element at the front of a text.
use Rattle.std.proofs.Common.{◌≡◌, ℕ, Bool, true, false, cond, eqb, Option, Some, None, Result, Ok, Err, List, [], ◌∷◌, ◌++◌, length, drop, codes, refl, sym, ap, ◌∙◌, subst}
use Rattle.page_pieces.specs.declared.head.Misread.{Misread}
use Rattle.page_pieces.specs.declared.head.Misread.TheVariants.{Malformed}
use Rattle.page_pieces.specs.Names.{IsName, is_name_byte}
use Rattle.page_pieces.specs.Marks.{TagName, name_at, tag_name, with_prefix, with_colon, with_local}
use Rattle.page_pieces.specs.Texts.{begins, after}
use Rattle.page_pieces.specs.ReadHead.{◌>>=◌, or_misread, name_read, behind_mark}
use Rattle.page_pieces.proofs.AtFront.Longest.{Stops}
use Rattle.page_pieces.proofs.AtFront.Names.{NameFront, name_found}
use Rattle.page_pieces.proofs.AtFront.Marks.{after_one, behind_one, behind_one_end, mark_cut}
use Rattle.page_pieces.proofs.Heads.Attributes.{Bound, bound, ok_same, read_name}

-- an element's prefix and name stand at the front of a text, as far as they go
pub record TagFront (text : List ℕ) (tag : TagName) : Type 0 where
  pub prefixed : IsName tag.prefix
  pub named : IsName tag.name
  pub cut : text ≡ tag.prefix ++ 58 ∷ (tag.name ++ tag.rest)
  pub stops : Stops is_name_byte tag.rest

abbrev tag_with : List ℕ → List ℕ × List ℕ → Result TagName Misread
tag_with prefix local = Ok (record { prefix = prefix; name = local.0; rest = local.1 })

abbrev behind_prefix : List ℕ × List ℕ → Result TagName Misread
behind_prefix prefix = behind_mark (codes ":") prefix.1 >>= (λ rest. name_read rest >>= tag_with prefix.0)

-- the prefix and the name, or why they aren't read
abbrev tag_read : List ℕ → Result TagName Misread
tag_read text = name_read text >>= behind_prefix

abbrev ok_of : Result TagName Misread → Option TagName
ok_of (Ok tag) = Some tag
ok_of (Err fault) = None

tag_is_read : (text : List ℕ) → tag_name text ≡ ok_of (tag_read text)
unfolding tag_name
tag_is_read text = go (name_at text)
  where
    local : (prefix bytes : List ℕ) (o : Option (List ℕ × List ℕ)) → with_local prefix o ≡ ok_of (or_misread bytes o >>= tag_with prefix)
    local prefix bytes None = refl
    local prefix bytes (Some found) = refl

    colon : (prefix rest : List ℕ) → with_colon prefix (after (codes ":") rest) ≡ ok_of (behind_prefix (prefix, rest))
    colon prefix [] = sym (ap (λ r. ok_of (r >>= (λ rest. name_read rest >>= tag_with prefix))) (behind_one_end 58))
    colon prefix (b ∷ bytes) =
        ap (with_colon prefix) (after_one 58 b bytes)
        ∙ here (eqb 58 b)
        ∙ sym (ap (λ r. ok_of (r >>= (λ rest. name_read rest >>= tag_with prefix))) (behind_one 58 b bytes))
      where
        here : (stands : Bool) → with_colon prefix (cond stands (Some bytes) None) ≡ ok_of (cond stands (Ok bytes) (Err Malformed) >>= (λ rest. name_read rest >>= tag_with prefix))
        here true = local prefix bytes (name_at bytes)
        here false = refl

    go : (o : Option (List ℕ × List ℕ)) → with_prefix o ≡ ok_of (or_misread text o >>= behind_prefix)
    go None = refl
    go (Some found) = colon found.0 found.1

read_ok : (r : Result TagName Misread) (tag : TagName) → ok_of r ≡ Some tag → r ≡ Ok tag
read_ok (Ok other) tag is = cc
read_ok (Err fault) tag is = cc

pub tag_front : (text : List ℕ) (tag : TagName) → tag_name text ≡ Some tag → TagFront text tag
tag_front text tag is = subst (TagFront text) {x = found} (ok_same {x = found} local.then) stands
  where
    prefix : Bound (name_read text) behind_prefix tag
    prefix = bound (name_read text) behind_prefix tag (read_ok (tag_read text) tag (sym (tag_is_read text) ∙ is))

    colon : Bound (behind_mark (codes ":") prefix.value.1) (λ rest. name_read rest >>= tag_with prefix.value.0) tag
    colon = bound (behind_mark (codes ":") prefix.value.1) (λ rest. name_read rest >>= tag_with prefix.value.0) tag prefix.then

    local : Bound (name_read colon.value) (tag_with prefix.value.0) tag
    local = bound (name_read colon.value) (tag_with prefix.value.0) tag colon.then

    found : TagName
    found = record { prefix = prefix.value.0; name = local.value.0; rest = local.value.1 }

    first : NameFront text prefix.value.0 prefix.value.1
    first = read_name text prefix.value prefix.is

    second : NameFront colon.value local.value.0 local.value.1
    second = read_name colon.value local.value local.is

    stands : TagFront text found
    stands = record {
      prefixed = first.named;
      named = second.named;
      cut = first.cut ∙ ap (λ r. prefix.value.0 ++ r) (mark_cut (codes ":") prefix.value.1 colon.value colon.is ∙ ap (λ r. 58 ∷ r) second.cut);
      stops = second.stops;
    }

pub tag_found : (prefix name rest : List ℕ) → IsName prefix → IsName name → Stops is_name_byte rest → tag_name (prefix ++ 58 ∷ (name ++ rest)) ≡ Some (record { prefix = prefix; name = name; rest = rest })
unfolding tag_name
tag_found prefix name rest prefixed named stops =
    ap with_prefix (name_found prefix (58 ∷ (name ++ rest)) prefixed refl) ∙ ap (with_local prefix) (name_found name rest named stops)

-- behind this mark stands an element's prefix and name
pub record TagBehind (mark text : List ℕ) : Type 0 where
  pub tag : TagName
  pub stands : begins mark text ≡ true
  pub named : tag_name (drop (length mark) text) ≡ Some tag
