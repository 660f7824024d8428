use Rattle.std.proofs.Common.{◌<◌, ℕ, List, length, map, get_or, subst, sym, ap, ◌∙◌, arith, All}
use Rattle.std.proofs.lemmas.List.{get_or-map, length-map, take_all}
use Rattle.std.proofs.lemmas.List.Elements.{All-get_or}
use Rattle.std.proofs.lemmas.Simd.{map-map}
use Rattle.httparse.specs.declared.spans.HeaderSpan.{HeaderSpan}
use Rattle.httparse.specs.Grammar.{IsToken}
use Rattle.httparse.specs.Spans.{header_bytes, span_bytes}
use Rattle.http_in.specs.Fields.{field_of}
use Rattle.http_in.proofs.fields.fields_at.Goals as goal

-- each span covers a token
token_at : (head : List ℕ) (spans : List HeaderSpan) (i : ℕ) (span : HeaderSpan) → i < length spans → All (λ field. IsToken field.0) (map (header_bytes head) spans)
    → IsToken (span_bytes head (get_or spans i span).name)
token_at head spans i span within tokens =
    subst (λ field. IsToken field.0) (get_or-map (header_bytes head) spans i span (header_bytes head span) within)
    (All-get_or (λ field. IsToken field.0) (map (header_bytes head) spans) i (header_bytes head span) (omega (arith, length-map spans (header_bytes head))) tokens)

pub read_field-requires : goal.read_field-requires
read_field-requires c = subst IsToken (sym c.of.ensures) (token_at c.args.head.now c.args.spans.now c.loop-span.span-index _ c.loop-span-test.true c.requires.names)

pub returns : goal.returns
returns c =
    let all = take_all c.loop-span.span-index c.args.spans.now c.loop-span-test.false in
    c.new.ensures ∙ c.loop-span.invariant ∙ ap (map (λ span. field_of (header_bytes c.args.head.now span))) all ∙ sym (map-map field_of (header_bytes c.args.head.now) c.args.spans.now)
