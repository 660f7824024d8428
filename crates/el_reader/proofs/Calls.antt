-- Where a call of a name without a prefix may stand.
use Rattle.std.proofs.Common.{◌≡◌, ℕ, ◌+◌, ◌-◌, ◌≤◌, false, nat_le, not, ◌&&◌, List, length, ap}
use Rattle.std.specs.List.{slice_get}
use Rattle.std.proofs.lemmas.Option.{slice_get_past}
use Rattle.el_reader.specs.declared.token.Token.{Token}
use Rattle.el_reader.specs.Expression.{is_bare_call, is_call, is_prefix}

-- none begins past the end
pub none_past : (ts : List Token) (k : ℕ) → length ts ≤ k → is_bare_call ts k ≡ false
none_past ts k le = ap (λ o. is_call o (slice_get ts (k + 1)) && not (nat_le 2 k && is_prefix (slice_get ts (k - 2)) (slice_get ts (k - 1)))) (slice_get_past ts k le)
