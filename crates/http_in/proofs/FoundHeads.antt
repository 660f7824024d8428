-- What the parser found of a head.
use Rattle.std.proofs.Common.{◌≡◌, ℕ, List, [], length, map, take, All, Result, sym, ap, subst, ◌∙◌, arith}
use Rattle.std.proofs.lemmas.List.{length-map, length-take}
use Rattle.std.proofs.lemmas.List.Elements.{All-map, All-weaker}
use Rattle.httparse.specs.declared.spans.HeaderSpan.{HeaderSpan}
use Rattle.httparse.specs.declared.spans.RequestSpans.{RequestSpans}
use Rattle.httparse.specs.Grammar.{RequestHead, ReadsRequest, IsField, IsToken}
use Rattle.httparse.specs.Spans.{span_bytes, header_bytes, name_and_value, IsRequestAt}
use Rattle.http_in.specs.declared.fault.HttpFault.{HttpFault}
use Rattle.http_in.specs.declared.fields.Field.{Field}
use Rattle.http_in.specs.declared.limits.TheConstants.{MAX_FIELDS}
use Rattle.http_in.specs.Fields.{field_of, fields_of}
use Rattle.http_in.specs.Head.{IsHead, sized, size_after}

-- the names of a head's fields are tokens
pub names_are_tokens : (bytes : List ℕ) (spans : List HeaderSpan) (request : RequestSpans) (head : RequestHead) → IsRequestAt bytes spans request head → ReadsRequest bytes head []
    → All (λ field. IsToken field.0) (map (header_bytes bytes) (take request.headers spans))
names_are_tokens bytes spans request head at reads =
    let names = All-weaker IsField (λ field. IsToken field.name) (λ field is. is.name) head.fields reads.0.fields in
    subst (All (λ field. IsToken field.0)) (sym at.fields) (All-map (λ field. IsToken field.0) name_and_value head.fields names)

-- what fits 64 spans is such a head
pub is_head : (bytes : List ℕ) (spans : List HeaderSpan) (request : RequestSpans) (head : RequestHead) → IsRequestAt bytes spans request head → ReadsRequest bytes head [] → length spans ≡ MAX_FIELDS
    → IsHead bytes head
is_head bytes spans request head at reads room = record {
  reads = reads;
  few =
      let found = sym (length-map (take request.headers spans) (header_bytes bytes)) ∙ ap length at.fields ∙ length-map head.fields name_and_value in
      omega (arith, length-take request.headers spans, found);
}

-- the fields at the spans are those of the head
pub fields_are : (bytes : List ℕ) (spans : List HeaderSpan) (request : RequestSpans) (head : RequestHead) → IsRequestAt bytes spans request head
    → map field_of (map (header_bytes bytes) (take request.headers spans)) ≡ fields_of head
fields_are bytes spans request head at = ap (map field_of) at.fields

-- what is judged of the parts that were found is judged of the head
pub size_is : (bytes : List ℕ) (spans : List HeaderSpan) (request : RequestSpans) (head : RequestHead) (target : List ℕ) (fields : List Field) (judged : Result ℕ HttpFault)
    → IsRequestAt bytes spans request head → target ≡ span_bytes bytes request.path → fields ≡ map field_of (map (header_bytes bytes) (take request.headers spans))
    → judged ≡ sized request.version target fields → size_after head ≡ judged
size_is bytes spans request head target fields judged at is_target are_fields is =
    sym (is ∙ ap (λ minor. sized minor target fields) at.version ∙ ap (λ t. sized head.minor t fields) (is_target ∙ at.path)
    ∙ ap (sized head.minor head.target) (are_fields ∙ fields_are bytes spans request head at))
