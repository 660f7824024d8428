-- What stands between two quotes: a string literal of an expression, and the value of an attribute.
use Rattle.std.specs.Prelude.{◌≡◌, ◌≢◌, ◌==◌, ◌||◌, ℕ, Bool, true, List, [], ◌∷◌}

-- the quote is `"` or `'`
abbrev pub is_quote : ℕ → Bool
is_quote b = (b == 34) || (b == 39)

-- any byte but the quote and the backslash, or a backslash and a byte behind it that passes the test, and so on
pub data Between (may_follow : ℕ → Bool) (quote : ℕ) : List ℕ → Type 0 where
  nothing_between : Between may_follow quote []
  byte_then : (b : ℕ) {bytes : List ℕ} → b ≢ quote → b ≢ 92 → Between may_follow quote bytes → Between may_follow quote (b ∷ bytes)
  escaped_then : (b : ℕ) {bytes : List ℕ} → may_follow b ≡ true → Between may_follow quote bytes → Between may_follow quote (92 ∷ b ∷ bytes)

-- the content that it stands for: its bytes without the backslashes that stand before another byte
abbrev pub content_of : {may_follow : ℕ → Bool} {quote : ℕ} {bytes : List ℕ} → Between may_follow quote bytes → List ℕ
content_of nothing_between = []
content_of (byte_then b not_quote not_backslash more) = b ∷ content_of more
content_of (escaped_then b may_follow more) = b ∷ content_of more

-- any byte may stand behind a backslash
abbrev pub any_byte : ℕ → Bool
any_byte b = true
