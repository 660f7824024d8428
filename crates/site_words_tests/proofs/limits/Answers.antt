use Rattle.site_words_tests.proofs.AtLimitsCases.{one_gives_way, full_is_sound, too_many_files}
use Rattle.site_words_tests.proofs.limits.Goals as goal

pub returns-clause-one_gives_way : goal.returns-clause-one_gives_way
returns-clause-one_gives_way c = one_gives_way

pub returns-clause-full_is_sound : goal.returns-clause-full_is_sound
returns-clause-full_is_sound c = full_is_sound

pub returns-clause-too_many_files : goal.returns-clause-too_many_files
returns-clause-too_many_files c = too_many_files
