use Rattle.std.proofs.Common.{◌≡◌, ◌++◌, flat_map, take, string_bytes}
use Rattle.jstl_functions.proofs.join.joined_behind.Given as goal

abbrev pub invariant-loop-text : goal.invariant-loop-text
invariant-loop-text l = string_bytes l.joined ≡ l.first ++ flat_map (λ t. l.between ++ t) (take l.text-index l.others)
