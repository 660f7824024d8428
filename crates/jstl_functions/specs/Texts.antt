-- Texts: what is found in them, cut from them and put in their place. A place is counted in bytes, and a text that is asked for by
-- its characters is cut by scalar values.
use Rattle.std.specs.Prelude.{ℕ, ℤ, pos, negsuc, zero, suc, ◌+◌, ◌-◌, ◌==◌, Bool, not, List, [], ◌∷◌, ◌++◌, length, take, drop, min, nat_eq, nat_le, chars, encode_utf8_all, filter, flat_map, map, Option, Some, None, is_some, if◌then◌else◌}
use Rattle.std.specs.List.{list_any, prefix_len, suffix_len, starts_with, slice_split}
use Rattle.std.specs.Option.{option_map}
use Rattle.std.specs.Str.{str_to_ascii_lowercase}

-- the text has no bytes
abbrev pub is_empty : List ℕ → Bool
is_empty text = length text == 0

-- the first place at which a part stands in a text
abbrev pub place_of_part : (part : List ℕ) → (text : List ℕ) → Option ℕ
place_of_part part [] = if is_empty part then Some 0 else None
place_of_part part (b ∷ text) = if starts_with nat_eq (b ∷ text) part then Some 0 else option_map suc (place_of_part part text)

-- a part stands in a text
abbrev pub contains_part : (part : List ℕ) → (text : List ℕ) → Bool
contains_part part text = is_some (place_of_part part text)

-- a part stands in a text, whatever the case of their ASCII letters
abbrev pub contains_ignoring_case : (part : List ℕ) → (text : List ℕ) → Bool
contains_ignoring_case part text = contains_part (str_to_ascii_lowercase part) (str_to_ascii_lowercase text)

-- what stands for a place, or for none
abbrev pub at_place : {A : Type 0} → Option ℕ → (ℕ → A) → A → A
at_place (Some place) found absent = found place
at_place None found absent = absent

-- the number of scalar values before the part, or -1 where it is absent
abbrev pub index_of_part : (part : List ℕ) → (text : List ℕ) → ℤ
index_of_part part text = at_place (place_of_part part text) (λ place. pos (length (chars (take place text)))) (negsuc 0)

-- what stands behind the first part: all of the text where the part is empty, nothing where it is absent
abbrev pub after_part : (part : List ℕ) → (text : List ℕ) → List ℕ
after_part part text = at_place (place_of_part part text) (λ place. drop (place + length part) text) []

-- what stands before the first part: nothing where the part is empty or absent
abbrev pub before_part : (part : List ℕ) → (text : List ℕ) → List ℕ
before_part part text = at_place (place_of_part part text) (λ place. take place text) []

-- a begin below 0 is 0
abbrev pub begin_of : ℤ → ℕ
begin_of (pos n) = n
begin_of (negsuc n) = 0

-- an end below 0 or beyond the length is the length
abbrev pub end_of : (len : ℕ) → ℤ → ℕ
end_of len (pos n) = min n len
end_of len (negsuc n) = len

-- so many scalar values of a text, from one on
abbrev pub scalars_from : (begin count : ℕ) → List ℕ → List ℕ
scalars_from begin count text = encode_utf8_all (take count (drop begin (chars text)))

-- the scalar values of a text from begin to end, and none where the end comes before the begin
abbrev pub substring_of : List ℕ → ℤ → ℤ → List ℕ
substring_of text begin end = scalars_from (begin_of begin) (end_of (length (chars text)) end - begin_of begin) text

-- a character up to U+0020, by its one byte
abbrev pub is_low : ℕ → Bool
is_low b = nat_le b 32

-- without such characters at the beginning
abbrev pub trimmed_front : List ℕ → List ℕ
trimmed_front text = drop (prefix_len is_low text) text

-- without such characters at the end
abbrev pub trimmed_end : List ℕ → List ℕ
trimmed_end text = take (length text - suffix_len is_low text) text

-- the text with each part that is `old`, from left to right, replaced; so many bytes are passed over first
abbrev pub replaced_behind : (old new : List ℕ) → (skip : ℕ) → List ℕ → List ℕ
replaced_behind old new skip [] = []
replaced_behind old new (suc skip) (b ∷ text) = replaced_behind old new skip text
replaced_behind old new zero (b ∷ text) =
    if starts_with nat_eq (b ∷ text) old then new ++ replaced_behind old new (length old - 1) text else b ∷ replaced_behind old new 0 text

-- the same, where an empty `old` changes nothing
abbrev pub replaced : (old new : List ℕ) → List ℕ → List ℕ
replaced old new text = if is_empty old then text else replaced_behind old new 0 text

-- the texts with another between them: the first, and each other one behind that which is between
abbrev pub joined : (between : List ℕ) → List (List ℕ) → List ℕ
joined between [] = []
joined between (first ∷ others) = first ++ flat_map (λ t. between ++ t) others

-- a part alone, or nothing where it is empty
abbrev pub kept : List ℕ → List (List ℕ)
kept part = if is_empty part then [] else part ∷ []

-- the texts between the scalar values that are delimiters, without the empty texts
abbrev pub tokens_between : (is_delimiter : ℕ → Bool) → List ℕ → List (List ℕ)
tokens_between is_delimiter scalars = filter (λ part. not (is_empty part)) (map encode_utf8_all (slice_split is_delimiter scalars))

-- a scalar value is one of these
abbrev pub is_one_of : List ℕ → ℕ → Bool
is_one_of values c = list_any (λ d. d == c) values

-- a scalar value is one of these delimiters
abbrev pub is_delimiter : (delimiters : List ℕ) → ℕ → Bool
is_delimiter delimiters c = is_one_of (chars delimiters) c

-- the parts of a text between the delimiters, each of which is one scalar value, without the empty parts
abbrev pub tokens : (delimiters : List ℕ) → List ℕ → List (List ℕ)
tokens delimiters text = tokens_between (is_delimiter delimiters) (chars text)

-- the tokens of a text; the empty text is its one token, and so is a text that has no delimiters
abbrev pub split_at : (delimiters : List ℕ) → List ℕ → List (List ℕ)
split_at delimiters text = if is_empty text then [] ∷ [] else (if is_empty delimiters then text ∷ [] else tokens delimiters text)
