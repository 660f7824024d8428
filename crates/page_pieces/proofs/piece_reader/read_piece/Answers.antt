use Rattle.std.proofs.Common.{◌≢◌, ◌<◌, List, ℕ, [], length, arith, ap}
use Rattle.page_pieces.proofs.PieceMeaning.{piece_means, stands_there, breaks_there}
use Rattle.page_pieces.proofs.piece_reader.read_piece.Goals as goal

not_empty : (text : List ℕ) → 0 < length text → text ≢ []
not_empty text some empty = absurd (omega (arith, ap length empty))

pub returns-clause-piece : goal.returns-clause-piece
returns-clause-piece c =
    stands_there _ _ _ _ _ _ _ (piece_means c.args.setting.now c.args.file.now c.args.spot c.args.text.now (not_empty c.args.text.now c.requires.some)) c.piece_at.ensures.value

pub returns-clause-fault : goal.returns-clause-fault
returns-clause-fault c =
    breaks_there _ _ _ _ _ _ (piece_means c.args.setting.now c.args.file.now c.args.spot c.args.text.now (not_empty c.args.text.now c.requires.some)) c.piece_at.ensures.value
