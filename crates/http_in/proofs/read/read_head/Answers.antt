use Rattle.std.proofs.Common.{◌<◌, length, sym, ap, arith}
use Rattle.http_in.specs.declared.limits.TheConstants.{MAX_HEAD_BYTES}
use Rattle.http_in.proofs.Moving.{moves_none, moves_both}
use Rattle.http_in.proofs.Near.{few_are_near, near_found, more_are_near}
use Rattle.http_in.proofs.read.read_head.Goals as goal

pub fill-init : goal.fill-init
fill-init g c = record {
  moved = moves_none _ _;
  near = λ few. few_are_near c.args.rest.now few;
  later = omega arith;
  unfailing = λ sure. sure;
}

pub fill-preserved : goal.fill-preserved
fill-preserved g c =
    let fill = rw c.head_len.ensures.same at c.in_ok-fill.ensures in
    let none = sym c.in_default.ensures.value in
    let small : length c.fill.rest < MAX_HEAD_BYTES = omega (arith, c.len.ensures, ap length c.head_len.ensures.same, c.if-len-ge-MAX_HEAD_BYTES.false) in record {
      moved = moves_both _ _ _ _ _ _ c.fill.invariant.moved fill.bytes;
      near = λ few. more_are_near c.fill.rest fill.bytes.piece c.fill-in-fill.new.self fill.bytes.grown fill.little small none;
      later = omega (arith, c.fill.invariant.later, fill.later);
      unfailing = λ sure. (fill.unfailing (c.fill.invariant.unfailing sure)).1;
    }

pub returns-in-Some-clause-ahead : goal.returns-in-Some-clause-ahead
returns-in-Some-clause-ahead g c = λ few.
    let near = near_found c.fill.rest c.in-Some.len (c.fill.invariant.near few) (sym c.in-Some.ensures.value) in
    omega (arith, near, ap length c.head_len.ensures.same)
