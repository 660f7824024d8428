use Rattle.std.proofs.Common.{inl, inr, arith}
use Rattle.site_state.proofs.Digits.{digit_is}
use Rattle.site_state.proofs.ids.hex_value.Goals as goal

pub returns-in-48-to-57 : goal.returns-in-48-to-57
returns-in-48-to-57 c value small is = elim (digit_is value c.args.digit small is) [
  | inl low ↦ (let least = low.0 in let most = low.1 in let same = low.2 in omega arith)
  | inr high ↦ (let least = high.0 in let most = high.1 in let same = high.2 in omega arith)
]

pub returns-in-97-to-102 : goal.returns-in-97-to-102
returns-in-97-to-102 c value small is = elim (digit_is value c.args.digit small is) [
  | inl low ↦ (let least = low.0 in let most = low.1 in let same = low.2 in omega arith)
  | inr high ↦ (let least = high.0 in let most = high.1 in let same = high.2 in omega arith)
]

pub returns-in_default : goal.returns-in_default
returns-in_default c value small is = elim (digit_is value c.args.digit small is) [
  | inl low ↦ (let least = low.0 in let most = low.1 in let same = low.2 in omega arith)
  | inr high ↦ (let least = high.0 in let most = high.1 in let same = high.2 in omega arith)
]

pub returns-in_default-2 : goal.returns-in_default-2
returns-in_default-2 c value small is = elim (digit_is value c.args.digit small is) [
  | inl low ↦ (let least = low.0 in let most = low.1 in let same = low.2 in omega arith)
  | inr high ↦ (let least = high.0 in let most = high.1 in let same = high.2 in omega arith)
]

pub returns-in_default-3 : goal.returns-in_default-3
returns-in_default-3 c value small is = elim (digit_is value c.args.digit small is) [
  | inl low ↦ (let least = low.0 in let most = low.1 in let same = low.2 in omega arith)
  | inr high ↦ (let least = high.0 in let most = high.1 in let same = high.2 in omega arith)
]
