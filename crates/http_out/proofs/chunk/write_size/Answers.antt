use Rattle.std.proofs.Common.{◌≡◌, ◌+◌, ◌-◌, ◌/◌, ◌%◌, ◌∷◌, ℕ, false, drop, sym, ap, ◌∙◌, arith}
use Rattle.std.specs.Fmt.{digit_glyph, digits_onto}
use Rattle.http_out.proofs.Digits.{digit_written, digits_before, fewer, further_digits, last_digit, some_room}
use Rattle.http_out.proofs.chunk.write_size.Goals as goal

pub digits-init : goal.digits-init
digits-init c = record {
  room = omega arith;
  within = omega arith;
  fits = omega arith;
  written = digits_before 16 false c.args.size (drop 16 c.args.line.now);
}

pub returns-then-left-eq0-clause-written : goal.returns-then-left-eq0-clause-written
returns-then-left-eq0-clause-written c =
    let l = c.digits in
    let count : 47 + l.at + 1 ≡ 48 + l.at = omega arith in
    digit_written l.line l.at c.digit.result l.invariant.room (omega arith)
    ∙ ap (λ (d : ℕ). d ∷ drop l.at l.line) c.digit.ensures
    ∙ sym (last_digit (47 + l.at) 16 false l.left (drop l.at l.line) c.if-left-eq0.true)
    ∙ ap (λ (n : ℕ). digits_onto n 16 false l.left (drop l.at l.line)) count
    ∙ l.invariant.written

pub digits-preserved : goal.digits-preserved
digits-preserved c =
    let l = c.digits in
    let below : 47 + l.at ≡ 48 + (l.at - 1) = omega (arith, c.digits.invariant.room) in
    let count : 47 + l.at + 1 ≡ 48 + l.at = omega arith in
    let digit = digit_written l.line l.at c.digit.result l.invariant.room (omega arith) ∙ ap (λ (d : ℕ). d ∷ drop l.at l.line) c.digit.ensures in
    let next : l.at - 1 + 1 ≡ l.at = omega (arith, c.digits.invariant.room) in
    let small = fewer l.left (l.at - 1) (rw next l.invariant.fits) in
    record {
      room = some_room (l.left / 16) (l.at - 1) small c.if-left-eq0.false;
      within = omega arith;
      fits = small;
      written = ap (digits_onto (48 + (l.at - 1)) 16 false (l.left / 16)) digit
          ∙ ap (λ (n : ℕ). digits_onto n 16 false (l.left / 16) (digit_glyph false (l.left % 16) ∷ drop l.at l.line)) (sym below)
          ∙ sym (further_digits (47 + l.at) 16 false l.left (drop l.at l.line) c.if-left-eq0.false)
          ∙ ap (λ (n : ℕ). digits_onto n 16 false l.left (drop l.at l.line)) count
          ∙ l.invariant.written;
    }
