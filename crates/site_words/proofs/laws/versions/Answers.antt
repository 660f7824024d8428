use Rattle.site_words.proofs.OneHistory.{version_counts, begun_version, never_older, one_history, opening_one}
use Rattle.site_words.proofs.Trees.{trees_are}
use Rattle.site_words.proofs.StoreLaw.{one_at}
use Rattle.site_words.proofs.Sound.{tree_good, tree_in_order, ready_in_order}
use Rattle.site_words.proofs.laws.versions.Goals as goal

pub returns-clause-counts : goal.returns-clause-counts
returns-clause-counts c = version_counts

pub returns-clause-latest : goal.returns-clause-latest
returns-clause-latest c = begun_version

pub returns-clause-older : goal.returns-clause-older
returns-clause-older c = never_older

pub returns-clause-requests : goal.returns-clause-requests
returns-clause-requests c = trees_are

pub returns-clause-texts : goal.returns-clause-texts
returns-clause-texts c = λ x history stamps. one_history x history (opening_one x.version x.tree stamps)

pub returns-clause-files : goal.returns-clause-files
returns-clause-files c = one_at

pub returns-clause-limits : goal.returns-clause-limits
returns-clause-limits c = tree_good

pub returns-clause-order : goal.returns-clause-order
returns-clause-order c = λ needs x history order. (tree_in_order needs x history order, ready_in_order needs x history)
