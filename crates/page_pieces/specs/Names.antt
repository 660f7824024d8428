-- White space and names.
use Rattle.std.specs.Prelude.{◌≡◌, ◌⊎◌, ◌++◌, ◌∷◌, ◌+◌, ◌==◌, ◌&&◌, ◌||◌, if◌then◌else◌, ℕ, Bool, true, false, List, [], nat_le, take, drop}
use Rattle.std.specs.List.{prefix_len, list_all}

-- white space is a space, a tab, a carriage return or a line feed
abbrev pub is_white : ℕ → Bool
is_white b = (b == 32) || (b == 9) || (b == 13) || (b == 10)

-- an ASCII letter
abbrev pub is_letter : ℕ → Bool
is_letter b = (nat_le 65 b && nat_le b 90) || (nat_le 97 b && nat_le b 122)

-- a name begins with a letter or `_`
abbrev pub is_name_start : ℕ → Bool
is_name_start b = is_letter b || (b == 95)

-- a name goes on with letters, digits, `_`, `-` and `.`
abbrev pub is_name_byte : ℕ → Bool
is_name_byte b = is_letter b || (nat_le 48 b && nat_le b 57) || (b == 95) || (b == 45) || (b == 46)

-- the text is white space alone, or empty
abbrev pub IsWhite : List ℕ → Type 0
IsWhite text = list_all is_white text ≡ true

abbrev pub is_name : List ℕ → Bool
is_name [] = false
is_name (b ∷ bytes) = is_name_start b && list_all is_name_byte bytes

-- the text is a name
abbrev pub IsName : List ℕ → Type 0
IsName text = is_name text ≡ true

-- the name of an attribute may have a prefix and a colon before it
abbrev pub IsAttributeName : List ℕ → Type 0
IsAttributeName text = IsName text ⊎ ((prefix : List ℕ) × (local : List ℕ) × (text ≡ prefix ++ 58 ∷ local) × IsName prefix × IsName local)

-- how many bytes at the front of a text are white space
abbrev pub white_len : List ℕ → ℕ
white_len text = prefix_len is_white text

-- how many bytes at the front of a text are a name: none where no name stands there
abbrev pub name_len : List ℕ → ℕ
name_len [] = 0
name_len (b ∷ bytes) = if is_name_start b then 1 + prefix_len is_name_byte bytes else 0

-- the white space at the front of a text, and what follows it
abbrev pub white_front : List ℕ → List ℕ
white_front text = take (white_len text) text

abbrev pub behind_white : List ℕ → List ℕ
behind_white text = drop (white_len text) text
