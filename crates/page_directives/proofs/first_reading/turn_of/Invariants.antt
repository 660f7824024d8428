use Rattle.std.proofs.Common.{◌≡◌, false, take, codes}
use Rattle.std.specs.Option.{option_map}
use Rattle.page_directives.specs.Settings.{decided_by, is_unbuffered}
use Rattle.page_directives.proofs.first_reading.turn_of.Given as goal

abbrev pub invariant-loop-i : goal.invariant-loop-i
invariant-loop-i l = record {
  buffer : option_map (λ text. text.now) l.buffer ≡ decided_by l.in_tag (take l.i l.directives) (codes "buffer");
  auto_flush : option_map (λ text. text.now) l.auto_flush ≡ decided_by l.in_tag (take l.i l.directives) (codes "autoFlush");
  undecided : is_unbuffered l.in_tag (take l.i l.directives) ≡ false;
}
