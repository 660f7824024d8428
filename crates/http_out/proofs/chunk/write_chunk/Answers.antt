use Rattle.std.proofs.Common.{◌≡◌, ◌-◌, ◌∷◌, ◌++◌, [], ℕ, List, false, length, take, drop, subst, arith}
use Rattle.std.proofs.lemmas.List.{take_all, length-drop}
use Rattle.std.specs.Fmt.{digits}
use Rattle.http_out.specs.Response.{chunk}
use Rattle.http_out.specs.Sent.{Sent}
use Rattle.http_out.proofs.SentLemmas.{three_behind}
use Rattle.http_out.proofs.chunk.write_chunk.Goals as goal

pub returns-clause-sent : goal.returns-clause-sent
unfolding chunk
returns-clause-sent g c = λ old text was.
    let size = digits 16 false (length c.args.piece.now) ++ 13 ∷ 10 ∷ [] in
    let start = c.write_size-start.result in
    let all : take (18 - start) (drop start c.write_size-start.new.line) ≡ drop start c.write_size-start.new.line
    = take_all (18 - start) (drop start c.write_size-start.new.line) (omega (arith, length-drop start c.write_size-start.new.line)) in
    let line = (rw (all, c.write_size-start.ensures.written) at c.write.ensures.sent) old text was in
    let whole = c.write-3.ensures.sent old ((text ++ size) ++ c.args.piece.now) (c.write-2.ensures.sent old (text ++ size) line) in
    subst (λ (t : List ℕ). Sent old (g.K.Sink.taken c.write-3.new.sink) t c.write-3.new.failed) (three_behind text size c.args.piece.now (13 ∷ 10 ∷ [])) whole
