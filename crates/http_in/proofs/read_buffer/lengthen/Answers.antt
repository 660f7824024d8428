use Rattle.std.proofs.Common.{arith}
use Rattle.http_in.proofs.Buffered.{grown_front}
use Rattle.http_in.proofs.read_buffer.lengthen.Goals as goal

pub returns : goal.returns
returns c = record {
  front = grown_front c.args.bytes.now.items _ _ c.args.len (omega arith) c.in_ok-resize.ensures.items;
  long = omega (arith, c.in_ok-resize.ensures.len);
}
