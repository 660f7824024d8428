use Rattle.std.proofs.Common.{◌∙◌, ap, ltb, leb, take, rules, tests}
use Rattle.std.proofs.lemmas.List.{take_rest}
use Rattle.std.proofs.lemmas.List.Sorted.{IsNonDecreasingBy-take, IsPartitionPoint-from_clause, IsPartitionedBy-leb, IsPartitionedBy-ltb}
use Rattle.page_pieces.specs.declared.setting.BroughtPrefixes.{BroughtPrefixes}
use Rattle.page_pieces.specs.Settings.{brought_at}
use Rattle.page_pieces.proofs.BroughtLemmas.{before_higher, behind_lower}
use Rattle.page_pieces.proofs.brought.at_byte.Goals as goal

pub returns : goal.returns
returns c =
    let brought = c.args.brought.now in
    let byte = c.args.byte in
    let to = c.partition_point-to.result in
    let from = c.partition_point-from.result in
    let key = λ (bringing : BroughtPrefixes). bringing.byte in
    let front = take to brought in
    let up_to = IsPartitionPoint-from_clause (λ (bringing : BroughtPrefixes). leb bringing.byte byte) brought to c.partition_point-to.ensures.partitioned (IsPartitionedBy-leb key brought byte c.requires) (λ bringing r f called. search (rules, tests)) in
    let behind = IsPartitionPoint-from_clause (λ (bringing : BroughtPrefixes). ltb bringing.byte byte) front from c.partition_point-from.ensures.partitioned (IsPartitionedBy-ltb key front byte (IsNonDecreasingBy-take key to brought c.requires)) (λ bringing r f called. search (rules, tests)) in
    ap (brought_at byte) (take_rest front from) ∙ (behind_lower byte from front behind.0 ∙ before_higher byte to brought up_to.1)
