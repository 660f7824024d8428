use Rattle.std.proofs.Common.{◌≡◌, []}
use Rattle.dispatch.proofs.ReplyLemmas.{unwritten, wrote_whole, wrote_written}
use Rattle.dispatch.proofs.replying.write_reply.Goals as goal

pub returns-in-Written-clause-wrote : goal.returns-in-Written-clause-wrote
returns-in-Written-clause-wrote g c = λ origin scopes asking s reached headed is_open.
    wrote_written reached headed c.args.reply c.in-Written.broken c.in-Written.is is_open _ _ c.write_rest.result (c.write_rest.ensures.wrote origin.start origin.before s.writer reached.writer)

pub returns-in_ok-new_id-in-Whole-clause-wrote : goal.returns-in_ok-new_id-in-Whole-clause-wrote
returns-in_ok-new_id-in-Whole-clause-wrote g c = λ origin scopes asking s reached headed is_open.
    let none : s.writer.pieces ≡ [] = rw c.in-Whole.is at is_open in
    let wrote = rw c.of.ensures at (c.write_body.ensures.wrote origin.start origin.before (unwritten reached headed none)) in
    wrote_whole reached headed c.args.reply _ _ _ c.in-Whole.body _ _ c.in-Whole.is c.as_slice.ensures c.in_ok-new_id-in-Whole.ensures none _ _ c.write_body.result wrote
