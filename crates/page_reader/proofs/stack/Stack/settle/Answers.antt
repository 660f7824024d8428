use Rattle.std.proofs.Common.{refl, sym, ◌∙◌}
use Rattle.page_reader.proofs.StackLemmas.{settled_already}
use Rattle.page_reader.proofs.stack.Stack.settle.Goals as goal

pub returns-in-None : goal.returns-in-None
returns-in-None c = settled_already c.args.file.now c.args.self.now (record c.args.self.now { run = c.take.new.self }) (sym c.take.ensures.value ∙ c.in-None.is) c.take.ensures.after refl refl
