use Rattle.std.proofs.Common.{◌≡◌, false, sym, string_bytes, true}
use Rattle.std.proofs.lemmas.List.{nil_from_length}
use Rattle.std.specs.Str.{chars}
use Rattle.jstl_functions.specs.Texts.{is_delimiter}
use Rattle.jstl_functions.proofs.Splits.{cut_at, cut_begins, cut_ends, cut_on}
use Rattle.jstl_functions.proofs.split.tokens.Goals as goal

pub loop-c-init : goal.loop-c-init
loop-c-init c =
    let begun : c.into_iter-c-iterator.result.rest.now ≡ c.args.text.now = cc in
    cut_begins (is_delimiter c.args.delimiters.now) c.args.text.now c.into_iter-c-iterator.result.rest.now c.new-found.result.items (string_bytes c.new-token.result) c.utf8.text begun c.new-found.ensures.items c.new-token.ensures.bytes

pub loop-c-preserved-in-Continue-branch-2 : goal.loop-c-preserved-in-Continue-branch-2
loop-c-preserved-in-Continue-branch-2 c =
    let same = c.in_ok-marks.ensures.same c.in-Some.c in
    let at : is_delimiter c.args.delimiters.now c.in-Some.c ≡ true = cc (same, c.is_mark.ensures, c.deref.ensures.value, c.if-is_mark.true) in
    cut_at (is_delimiter c.args.delimiters.now) (chars c.args.text.now) c.loop-c.c-iterator.rest.now c.next.new.self.rest.now c.loop-c.found.items c.end_token.new.found.items (string_bytes c.loop-c.token) (string_bytes c.end_token.new.token) c.in-Some.c c.loop-c.invariant
    c.in-Some.ensures.steps.0 at c.in_ok-end_token.ensures.found c.in_ok-end_token.ensures.token

pub loop-c-preserved : goal.loop-c-preserved
loop-c-preserved c =
    let same = c.in_ok-marks.ensures.same c.in-Some.c in
    let on : is_delimiter c.args.delimiters.now c.in-Some.c ≡ false = cc (same, c.is_mark.ensures, c.deref.ensures.value, c.if-is_mark.false) in
    cut_on (is_delimiter c.args.delimiters.now) (chars c.args.text.now) c.loop-c.c-iterator.rest.now c.next.new.self.rest.now c.loop-c.found.items (string_bytes c.loop-c.token) (string_bytes c.push.new.self) c.in-Some.c c.loop-c.invariant
    c.in-Some.ensures.steps.0 on c.in_ok-push.ensures.bytes

pub returns : goal.returns
returns c =
    cut_ends (is_delimiter c.args.delimiters.now) (chars c.args.text.now) c.loop-c.c-iterator.rest.now c.loop-c.found.items c.end_token-2.new.found.items (string_bytes c.loop-c.token) c.loop-c.invariant (sym (nil_from_length c.loop-c.c-iterator.rest.now c.in-None.ensures.steps.0.0)) c.in_ok-end_token-2.ensures.found
