use Rattle.std.proofs.Common.{◌≡◌, ◌≤◌, ◌+◌, length}
use denote.Text.{Utf8}
use denote.Shadow.{shadow}
use Rattle.page_pieces.proofs.Heads.Loop.{Leads}
use Rattle.page_pieces.proofs.head_reader.attributes_at.Given as goal

abbrev pub invariant-attributes : goal.invariant-attributes
invariant-attributes l = record {
  utf8 : shadow (Utf8 l.rest);
  leads : Leads l.fn.setting l.fn.file l.fn.head.spot l.fn.from l.fn.head.kind l.text l.found l.at l.rest;
  within : length l.rest ≤ length l.text;
  byte : l.at.byte + length l.rest ≡ l.fn.from.byte + length l.text;
  line : l.at.line ≤ l.at.byte + 1;
  column : l.at.column ≤ l.at.byte + 1;
}

abbrev pub decreases-attributes : goal.decreases-attributes
decreases-attributes l = length l.rest
