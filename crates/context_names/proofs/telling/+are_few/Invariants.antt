use Rattle.context_names.proofs.telling.+are_few.Given as goal

abbrev pub decreases-are_few : goal.decreases-are_few
decreases-are_few l = l.most
