use Rattle.std.proofs.Common.{◌≡◌, ◌+◌, ◌≤◌, ◌<◌, ◌^◌, ◌++◌, false, drop}
use Rattle.std.specs.Fmt.{digits, digits_onto}
use Rattle.http_out.proofs.chunk.write_size.Given as goal

-- the digits that are left, before those that stand there, are all digits, and there is room for them
abbrev pub invariant-digits : goal.invariant-digits
invariant-digits l = record {
  room : 1 ≤ l.at;
  within : l.at ≤ 16;
  fits : l.left < 16 ^ l.at;
  written : digits_onto (48 + l.at) 16 false l.left (drop l.at l.line) ≡ digits 16 false l.size ++ drop 16 l.fn.line;
}

abbrev pub decreases-digits : goal.decreases-digits
decreases-digits l = l.at
