use Rattle.std.proofs.Common.{◌≡◌, ◌∙◌, ap, arith}
use Rattle.unit_source.specs.Files.{text_in}
use Rattle.unit_source.specs.First.{first_all, first_within}
use Rattle.unit_source.specs.ReadFirst.{told_behind}
use Rattle.unit_source.specs.ReadParts.{in_part}
use Rattle.unit_source.proofs.FirstLemmas.{next_part}
use Rattle.unit_source.proofs.first.+first.Goals as goal

pub read_parts-loop-part-preserved : goal.read_parts-loop-part-preserved
read_parts-loop-part-preserved t c =
    let files = text_in c.args.files.now in
    let enter = first_within c.args.deep files c.args.chain.now in
    let now = c.loop-part.found in
    let more : c.read_part.new.found ≡ told_behind now (first_all enter files c.args.chain.now now.volume (in_part c.part-item.result)) =
    c.in_ok-read_part.ensures.first
    ∙ ap (λ f. told_behind now (first_all (first_within c.args.deep (text_in f) c.args.chain.now) (text_in f) c.args.chain.now now.volume (in_part c.part-item.result))) c.loop-part.invariant.files in
    record {
      files = c.in_ok-read_part.ensures.files ∙ c.loop-part.invariant.files;
      first = next_part enter files c.args.chain.now c.args.parts.now c.loop-part.part-index c.part-item.result now c.read_part.new.found _
          (omega arith) c.part-item.is c.loop-part.invariant.first more;
    }
