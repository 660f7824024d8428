use Rattle.std.proofs.Common.{◌≡◌, arith, ap, sym, subst, ◌∙◌, Some, drop}
use Rattle.std.specs.Str.{IsCharBoundary, IsUtf8}
use Rattle.std.proofs.lemmas.Str.{IsUtf8-drop}
use Rattle.page_pieces.specs.ReadSigns.{escape_of, plain_len}
use Rattle.page_pieces.specs.Values.{escape_at}
use Rattle.page_pieces.proofs.AttributeValues.Escapes.{plain_cut, escape_cut, escape_step, no_escape, stands_at}
use Rattle.page_pieces.proofs.unescaped.Unescaped.of.Goals as goal
use Rattle.page_pieces.proofs.unescaped.Unescaped.of.Goals.{In-Some}

pub split_at-requires : goal.split_at-requires
split_at-requires c =
    subst (IsCharBoundary c.loop-unescaped.rest.now) (sym (c.plain_len.ensures.value ∙ ap (plain_len c.args.el) c.as_bytes.ensures.value)) (plain_cut c.args.el c.loop-unescaped.rest.now)

found : (c : In-Some) → escape_at c.args.el c.split_at.result.1.now ≡ Some (escape_of c.in-Some.escape)
found c = ap (escape_at c.args.el) (sym c.as_bytes-in-loop-unescaped.ensures.value) ∙ sym c.in-Some.ensures

text : (c : In-Some) → IsUtf8 c.split_at.result.1.now
text c = subst IsUtf8 c.as_bytes-in-loop-unescaped.ensures.value c.as_bytes-in-loop-unescaped.ensures.utf8

cut : (c : In-Some) → IsCharBoundary c.split_at.result.1.now c.in-Some.escape.len
cut c = escape_cut c.args.el c.split_at.result.1.now (escape_of c.in-Some.escape) (text c) (found c)

text_behind : (c : In-Some) → IsUtf8 (drop c.in-Some.escape.len c.split_at.result.1.now)
text_behind c = IsUtf8-drop c.split_at.result.1.now c.in-Some.escape.len (text c) (cut c)

pub split_at-requires-in-loop-unescaped : goal.split_at-requires-in-loop-unescaped
split_at-requires-in-loop-unescaped c = cut (goal.at.split_at-requires-in-loop-unescaped c).In-Some

pub returns-in_default : goal.returns-in_default
returns-in_default c =
    no_escape c.args.el c.loop-unescaped.unescaped c.in_ok-unescaped.unescaped c.loop-unescaped.rest.now c.split_at.result.0.now c.split_at.result.1.now c.plain_len.result
    (c.plain_len.ensures.value ∙ ap (plain_len c.args.el) c.as_bytes.ensures.value) c.split_at.ensures.front c.split_at.ensures.back
    (ap (escape_at c.args.el) (sym c.as_bytes-in-loop-unescaped.ensures.value) ∙ sym c.in_default.ensures) c.in_ok-unescaped.ensures
    ∙ c.loop-unescaped.invariant.same

pub loop-unescaped-smaller : goal.loop-unescaped-smaller
loop-unescaped-smaller c =
    let at = stands_at c.args.el c.split_at.result.1.now (escape_of c.in-Some.escape) (found (goal.at.loop-unescaped-smaller c).In-Some) in
    omega (arith, at.some, at.fits, c.split_at.ensures.back_len, c.split_at-in-loop-unescaped.ensures.back_len)

pub loop-unescaped-preserved : goal.loop-unescaped-preserved
loop-unescaped-preserved c = record {
  text = subst IsUtf8 (sym c.split_at-in-loop-unescaped.ensures.back) (text_behind (goal.at.loop-unescaped-preserved c).In-Some);
  same =
      escape_step c.args.el c.loop-unescaped.unescaped c.in_ok-unescaped.unescaped c.in_ok-unescaped-2.unescaped c.loop-unescaped.rest.now c.split_at.result.0.now c.split_at.result.1.now c.split_at-in-loop-unescaped.result.1.now c.plain_len.result (escape_of c.in-Some.escape)
      (c.plain_len.ensures.value ∙ ap (plain_len c.args.el) c.as_bytes.ensures.value) c.split_at.ensures.front c.split_at.ensures.back
      (found (goal.at.loop-unescaped-preserved c).In-Some) c.split_at-in-loop-unescaped.ensures.back c.in_ok-unescaped.ensures c.in_ok-unescaped-2.ensures
      ∙ c.loop-unescaped.invariant.same;
}
