use Rattle.std.proofs.Common.{◌≡◌, map, take}
use Rattle.httparse.specs.Spans.{header_bytes}
use Rattle.http_in.specs.Fields.{field_of}
use Rattle.http_in.proofs.fields.fields_at.Given as goal

-- the fields at the spans so far are there
abbrev pub invariant-loop-span : goal.invariant-loop-span
invariant-loop-span l = l.items.items ≡ map (λ span. field_of (header_bytes l.head span)) (take l.span-index l.spans)
