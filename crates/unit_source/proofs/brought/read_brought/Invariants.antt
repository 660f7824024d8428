use Rattle.std.proofs.Common.{◌≡◌, ◌++◌, drop}
use Rattle.unit_source.specs.Files.{text_in}
use Rattle.unit_source.specs.First.{brought_by, brought_names, firsts_by}
use Rattle.unit_source.specs.Volume.{one_file}
use Rattle.unit_source.proofs.brought.read_brought.Given as goal

abbrev pub invariant-loop-directive : goal.invariant-loop-directive
invariant-loop-directive l = record {
  files : l.files ≡ l.fn.files;
  brought : l.brought ++ brought_by (firsts_by (text_in l.fn.files) l.chain l.volume (drop l.directive-index l.own)) ≡ brought_by (firsts_by (text_in l.fn.files) l.chain (one_file l.bytes) l.own);
  names : l.names ++ brought_names (firsts_by (text_in l.fn.files) l.chain l.volume (drop l.directive-index l.own)) ≡ l.fn.names ++ brought_names (firsts_by (text_in l.fn.files) l.chain (one_file l.bytes) l.own);
}
