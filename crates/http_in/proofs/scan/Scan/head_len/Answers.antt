use Rattle.std.proofs.Common.{◌∙◌, sym, ap}
use Rattle.http_in.specs.HeadEnd.{skip_pairs}
use Rattle.http_in.proofs.Scans.{rest_is, only_pairs, begun, no_head_yet}
use Rattle.http_in.proofs.scan.Scan.head_len.Goals as goal

pub returns-then-rest-lt2-clause-value : goal.returns-then-rest-lt2-clause-value
returns-then-rest-lt2-clause-value c =
    let has = rw c.in-Pairs.is at c.requires in
    let is = c.skip_pairs-rest.ensures.value ∙ ap skip_pairs (rest_is c.args.bytes.now c.in-Pairs.at) in
    sym (no_head_yet c.args.bytes.now c.skip_pairs-rest.result.now c.in-Pairs.at has is c.if-rest-lt2.true)

pub returns-then-rest-lt2-clause-looked : goal.returns-then-rest-lt2-clause-looked
returns-then-rest-lt2-clause-looked c =
    let has = rw c.in-Pairs.is at c.requires in
    only_pairs c.args.bytes.now c.skip_pairs-rest.result.now c.in-Pairs.at has (c.skip_pairs-rest.ensures.value ∙ ap skip_pairs (rest_is c.args.bytes.now c.in-Pairs.at))

pub look_on-requires : goal.look_on-requires
look_on-requires c =
    let has = rw c.in-Pairs.is at c.requires in
    let is = c.skip_pairs-rest.ensures.value ∙ ap skip_pairs (rest_is c.args.bytes.now c.in-Pairs.at) in
    begun c.args.bytes.now c.skip_pairs-rest.result.now c.in-Pairs.at has is c.if-rest-lt2.false
