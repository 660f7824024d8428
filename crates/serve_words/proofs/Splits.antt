-- Where a word is split.
use Rattle.std.proofs.Common.{◌≡◌, ℕ, ◌<◌, List, length, Some, None, sym, arith}
use Rattle.std.proofs.lemmas.Bool.{cond-false, cond-true, le-ltb, lt-ltb}
use Rattle.std.specs.List.{after_first, before_first, position_or_len}
use Rattle.serve_words.specs.Words.{is_equals, split_at_equals}

pub split_found : (word before after : List ℕ) → before ≡ before_first is_equals word → after ≡ after_first is_equals word → position_or_len is_equals word < length word → Some (before, after) ≡ split_at_equals word
split_found word before after is_before is_after within = rw (is_before, is_after) (sym (cond-true _ _ _ (lt-ltb _ _ within)))

pub split_none : (word : List ℕ) → position_or_len is_equals word ≡ length word → None ≡ split_at_equals word
split_none word none = sym (cond-false _ _ _ (le-ltb (position_or_len is_equals word) (length word) (omega (arith, none))))
