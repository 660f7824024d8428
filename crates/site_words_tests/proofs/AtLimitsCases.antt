-- Each case is as its definition computes it.
use Rattle.std.proofs.Common.{refl}
use Rattle.source_tree.specs.Limits.{tree_fault}
use Rattle.rand_core.specs.Steps.{u32_at}
use Rattle.rand_chacha.specs.Block.{block_word, double_rounds, column_round, diagonal_round, quarter_round}
use Rattle.site_words_tests.specs.AtLimits.{OneGivesWay, FullIsSound, TooManyFiles}

pub one_gives_way : OneGivesWay
unfolding tree_fault block_word double_rounds column_round diagonal_round quarter_round u32_at
one_gives_way = refl

pub full_is_sound : FullIsSound
unfolding tree_fault
full_is_sound = refl

pub too_many_files : TooManyFiles
unfolding tree_fault block_word double_rounds column_round diagonal_round quarter_round u32_at
too_many_files = refl
