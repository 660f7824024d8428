use Rattle.std.proofs.Common.{◌≡◌, true, subst, string_bytes}
use Rattle.pg_text.specs.Failure.{Answers}
use Rattle.pg_value.specs.Datum.{text}
use Rattle.pg_value.specs.Limits.{is_over}
use Rattle.el_coercion.specs.Text.{made}
use Rattle.jstl_functions.specs.Texts.{replaced_behind}
use Rattle.jstl_functions.proofs.Replaces.{behind_utf8, no_more, one_more, shorter}
use Rattle.jstl_functions.proofs.TooLong.{too_long_already}
use Rattle.jstl_functions.proofs.replace.replace_some.Goals as goal

pub loop-before-smaller : goal.loop-before-smaller
loop-before-smaller c = shorter c.args.old.now c.loop-before.rest.now c.in-Some.before.now c.in-Some.behind.now c.requires c.in-Some.ensures.cases

pub loop-before-preserved : goal.loop-before-preserved
loop-before-preserved c = record {
  text = behind_utf8 c.args.old.now c.loop-before.rest.now c.in-Some.before.now c.in-Some.behind.now c.loop-before.invariant.text c.in-Some.ensures.cases;
  same = one_more c.args.old.now c.args.new.now _ (string_bytes c.loop-before.made) (string_bytes c.push_str.new.self) _ c.loop-before.rest.now c.in-Some.before.now c.in-Some.behind.now c.requires c.in-Some.ensures.cases c.loop-before.invariant.same c.in_ok-push_str.ensures.bytes c.in_ok-push_str-2.ensures.bytes;
}

-- the text that is being made is too long already
pub returns-then-is_too_long : goal.returns-then-is_too_long
returns-then-is_too_long c =
    let over : is_over (text (string_bytes c.loop-before.made)) ≡ true = cc in
    too_long_already (replaced_behind c.args.old.now c.args.new.now 0 c.args.text.now) (string_bytes c.loop-before.made) _ over c.loop-before.invariant.same

pub returns : goal.returns
returns c =
    let all : string_bytes c.push_str-2.new.self ≡ replaced_behind c.args.old.now c.args.new.now 0 c.args.text.now =
    no_more c.args.old.now c.args.new.now _ (string_bytes c.loop-before.made) _ c.loop-before.rest.now c.in_default.ensures.cases c.loop-before.invariant.same c.in_ok-push_str-3.ensures.bytes in
    subst (λ bytes. Answers (made bytes) c.made_text.result) all c.made_text.ensures
