use Rattle.std.proofs.Common.{◌∙◌, sym, subst, arith}
use Rattle.std.specs.Prelude.{IsUtf8}
use Rattle.http_in.proofs.FoundHeads.{names_are_tokens, is_head, fields_are, size_is}
use Rattle.http_in.proofs.Tokens.{token_is_text}
use Rattle.http_in.proofs.head.parse_head.Goals as goal

pub fields_at-requires-clause-names : goal.fields_at-requires-clause-names
fields_at-requires-clause-names c =
    let found = c.in-Some.ensures.found in
    names_are_tokens c.args.bytes.now c.whole_head.new.spans c.in-Some.request found.0 found.2 found.1

pub text_of-requires : goal.text_of-requires
text_of-requires c =
    let found = c.in-Some.ensures.found in
    subst IsUtf8 (sym (c.of.ensures ∙ found.2.method)) (token_is_text found.0.method found.1.0.method)

pub returns-clause-good : goal.returns-clause-good
returns-clause-good c =
    let found = c.in-Some.ensures.found in
    let fields = c.as_slice.ensures ∙ c.in_ok-fields.ensures in record {
      head = found.0;
      is_good = record {
        is_head = is_head c.args.bytes.now c.whole_head.new.spans c.in-Some.request found.0 found.2 found.1 (omega arith);
        size_is = size_is c.args.bytes.now c.whole_head.new.spans c.in-Some.request found.0 _ _ _ found.2 c.of-target.ensures fields c.in-Ok.ensures.answer;
      };
      method = c.in_ok-copy_of.ensures ∙ c.text_of.ensures ∙ c.of.ensures ∙ found.2.method;
      target = c.in_ok-copy_of-2.ensures ∙ c.text_of-2.ensures ∙ c.of-target.ensures ∙ found.2.path;
      fields = c.in_ok-fields.ensures ∙ fields_are c.args.bytes.now c.whole_head.new.spans c.in-Some.request found.0 found.2;
    }
