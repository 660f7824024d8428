use Rattle.std.proofs.Common.{◌≡◌, drop}
use Rattle.site_words.specs.Trees.{agrees}
use Rattle.program_store.proofs.fit.agree.Given as goal

-- all needs agree where those that are left do
abbrev pub invariant-loop-need : goal.invariant-loop-need
invariant-loop-need l = agrees (drop l.need-index l.needs) l.tree ≡ agrees l.needs l.tree
