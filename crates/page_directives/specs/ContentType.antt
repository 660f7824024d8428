-- A content type: a token, a slash, a token, and perhaps the charset UTF-8.
use Rattle.std.specs.Prelude.{ℕ, Bool, true, false, ◌==◌, ◌&&◌, ◌||◌, List, [], ◌∷◌, ◌++◌, codes, Option, Some, None, nat_eq, nat_le, take, drop, if◌then◌else◌}
use Rattle.std.specs.List.{list_any, prefix_len}
use Rattle.std.specs.Str.{bytes_eq, str_to_ascii_lowercase}
use Rattle.page_pieces.specs.Names.{is_letter, white_len}
use Rattle.page_pieces.specs.Texts.{after}

-- a byte of a token
abbrev pub is_token_byte : ℕ → Bool
is_token_byte b = is_letter b || (nat_le 48 b && nat_le b 57) || list_any (nat_eq b) (codes "!#$%&'*+-.^_`|~")

-- the token at the front of a text, and what follows it
abbrev pub token_at : List ℕ → Option (List ℕ × List ℕ)
token_at text = if prefix_len is_token_byte text == 0 then None else Some (take (prefix_len is_token_byte text) text, drop (prefix_len is_token_byte text) text)

abbrev pub with_second : List ℕ → Option (List ℕ × List ℕ) → Option (List ℕ × List ℕ)
with_second first None = None
with_second first (Some second) = Some (first ++ 47 ∷ second.0, second.1)

abbrev pub behind_slash : List ℕ → Option (List ℕ) → Option (List ℕ × List ℕ)
behind_slash first None = None
behind_slash first (Some rest) = with_second first (token_at rest)

abbrev pub with_first : Option (List ℕ × List ℕ) → Option (List ℕ × List ℕ)
with_first None = None
with_first (Some first) = behind_slash first.0 (after (codes "/") first.1)

-- the charset is UTF-8, in whatever letter case, perhaps in quotes
abbrev pub is_utf_8 : List ℕ → Bool
is_utf_8 text = bytes_eq text (codes "charset=utf-8") || bytes_eq text (codes "charset=\"utf-8\"")

abbrev pub is_parameter : Option (List ℕ) → Bool
is_parameter None = false
is_parameter (Some text) = is_utf_8 (str_to_ascii_lowercase (drop (white_len text) text))

-- nothing follows the two tokens, or a semicolon, white space and the charset
abbrev pub may_follow : List ℕ → Bool
may_follow [] = true
may_follow (b ∷ text) = is_parameter (after (codes ";") (b ∷ text))

abbrev pub with_charset : Option (List ℕ × List ℕ) → Option (List ℕ)
with_charset None = None
with_charset (Some found) = if may_follow found.1 then Some (found.0 ++ codes ";charset=UTF-8") else None

-- a content type as it is sent
unfoldable pub content_type : List ℕ → Option (List ℕ)
content_type text = with_charset (with_first (token_at text))
