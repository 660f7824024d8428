-- Each case is as its definition computes it.
use Rattle.std.proofs.Common.{refl}
use Rattle.source_tree.specs.Limits.{tree_fault}
use Rattle.rand_core.specs.Steps.{u32_at}
use Rattle.rand_chacha.specs.Block.{block_word, double_rounds, column_round, diagonal_round, quarter_round}
use Rattle.site_words_tests.specs.Worked.{StepsOfTwoPasses, Sessions, StaleBase, NoRoom, RoomForOne, IdleSessions, Abandon, OlderRequests, AllAttributes, Pictures, FortyReads, ReadWeighs, SetWeighs, LastReadFits, OpeningIsSound, AttributesAreKept, FirstId, SecondId, ThirdId, EighthId}

pub steps_of_two_passes : StepsOfTwoPasses
unfolding tree_fault block_word double_rounds column_round diagonal_round quarter_round u32_at
steps_of_two_passes = refl

pub sessions : Sessions
unfolding tree_fault block_word double_rounds column_round diagonal_round quarter_round u32_at
sessions = refl

pub stale_base : StaleBase
unfolding tree_fault block_word double_rounds column_round diagonal_round quarter_round u32_at
stale_base = refl

pub no_room : NoRoom
unfolding tree_fault block_word double_rounds column_round diagonal_round quarter_round u32_at
no_room = refl

pub room_for_one : RoomForOne
unfolding tree_fault block_word double_rounds column_round diagonal_round quarter_round u32_at
room_for_one = refl

pub idle_sessions : IdleSessions
unfolding tree_fault block_word double_rounds column_round diagonal_round quarter_round u32_at
idle_sessions = refl

pub abandon : Abandon
unfolding tree_fault block_word double_rounds column_round diagonal_round quarter_round u32_at
abandon = refl

pub older_requests : OlderRequests
unfolding tree_fault block_word double_rounds column_round diagonal_round quarter_round u32_at
older_requests = refl

pub all_attributes : AllAttributes
unfolding tree_fault block_word double_rounds column_round diagonal_round quarter_round u32_at
all_attributes = refl

pub pictures : Pictures
unfolding tree_fault block_word double_rounds column_round diagonal_round quarter_round u32_at
pictures = refl

pub forty_reads : FortyReads
unfolding tree_fault block_word double_rounds column_round diagonal_round quarter_round u32_at
forty_reads = refl

pub read_weighs : ReadWeighs
read_weighs = refl

pub set_weighs : SetWeighs
set_weighs = refl

pub last_read_fits : LastReadFits
last_read_fits = refl

pub opening_is_sound : OpeningIsSound
unfolding tree_fault
opening_is_sound = refl

pub attributes_are_kept : AttributesAreKept
unfolding tree_fault block_word double_rounds column_round diagonal_round quarter_round u32_at
attributes_are_kept = refl

pub first_id : FirstId
unfolding tree_fault block_word double_rounds column_round diagonal_round quarter_round u32_at
first_id = refl

pub second_id : SecondId
unfolding tree_fault block_word double_rounds column_round diagonal_round quarter_round u32_at
second_id = refl

pub third_id : ThirdId
unfolding tree_fault block_word double_rounds column_round diagonal_round quarter_round u32_at
third_id = refl

pub eighth_id : EighthId
unfolding tree_fault block_word double_rounds column_round diagonal_round quarter_round u32_at
eighth_id = refl
