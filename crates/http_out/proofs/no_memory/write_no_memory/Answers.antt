use Rattle.http_out.proofs.no_memory.write_no_memory.Goals as goal

pub returns-clause-sent : goal.returns-clause-sent
returns-clause-sent g c = λ old text was. (rw c.no_memory_text.ensures at c.write.ensures.sent) old text was
