-- A text may be cut behind a token, which is ASCII.
use Rattle.std.proofs.Common.{◌≡◌, ℕ, ◌<◌, true, List, IsUtf8, arith}
use Rattle.std.specs.List.{prefix_len}
use Rattle.std.specs.Str.{IsCharBoundary}
use Rattle.std.proofs.lemmas.Bool.Decides.{nat_tests}
use Rattle.std.proofs.lemmas.List.Sums.{prefix_len-le-length, prefix_len_passes}
use Rattle.page_pieces.proofs.NameLemmas.{ascii_cut}
use Rattle.page_directives.specs.ContentType.{is_token_byte}

token_ascii : (b : ℕ) → is_token_byte b ≡ true → b < 128
token_ascii b is = grind (arith, nat_tests)

pub token_cut : (text : List ℕ) → IsUtf8 text → IsCharBoundary text (prefix_len is_token_byte text)
token_cut text utf8 = ascii_cut text (prefix_len is_token_byte text) utf8 (prefix_len-le-length is_token_byte text) (λ i lt. token_ascii _ (prefix_len_passes is_token_byte text i 0 lt))
