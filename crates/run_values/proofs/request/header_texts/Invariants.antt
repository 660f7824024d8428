use Rattle.std.proofs.Common.{◌≡◌, map, take}
use Rattle.run_values.proofs.request.header_texts.Given as goal
use Rattle.page_meaning.specs.Request.{header_text}

abbrev pub invariant-loop-field : goal.invariant-loop-field
invariant-loop-field l = l.texts ≡ map header_text (take l.field-index l.field-items)
