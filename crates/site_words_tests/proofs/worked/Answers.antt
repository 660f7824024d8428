use Rattle.site_words_tests.proofs.WorkedCases.{steps_of_two_passes, sessions, stale_base, no_room, room_for_one, idle_sessions, abandon, older_requests, all_attributes, pictures, forty_reads, read_weighs, set_weighs, last_read_fits, opening_is_sound, attributes_are_kept, first_id, second_id, third_id, eighth_id}
use Rattle.site_words_tests.proofs.worked.Goals as goal

pub returns-clause-steps_of_two_passes : goal.returns-clause-steps_of_two_passes
returns-clause-steps_of_two_passes c = steps_of_two_passes

pub returns-clause-sessions : goal.returns-clause-sessions
returns-clause-sessions c = sessions

pub returns-clause-stale_base : goal.returns-clause-stale_base
returns-clause-stale_base c = stale_base

pub returns-clause-no_room : goal.returns-clause-no_room
returns-clause-no_room c = no_room

pub returns-clause-room_for_one : goal.returns-clause-room_for_one
returns-clause-room_for_one c = room_for_one

pub returns-clause-idle_sessions : goal.returns-clause-idle_sessions
returns-clause-idle_sessions c = idle_sessions

pub returns-clause-abandon : goal.returns-clause-abandon
returns-clause-abandon c = abandon

pub returns-clause-older_requests : goal.returns-clause-older_requests
returns-clause-older_requests c = older_requests

pub returns-clause-all_attributes : goal.returns-clause-all_attributes
returns-clause-all_attributes c = all_attributes

pub returns-clause-pictures : goal.returns-clause-pictures
returns-clause-pictures c = pictures

pub returns-clause-forty_reads : goal.returns-clause-forty_reads
returns-clause-forty_reads c = forty_reads

pub returns-clause-read_weighs : goal.returns-clause-read_weighs
returns-clause-read_weighs c = read_weighs

pub returns-clause-set_weighs : goal.returns-clause-set_weighs
returns-clause-set_weighs c = set_weighs

pub returns-clause-last_read_fits : goal.returns-clause-last_read_fits
returns-clause-last_read_fits c = last_read_fits

pub returns-clause-opening_is_sound : goal.returns-clause-opening_is_sound
returns-clause-opening_is_sound c = opening_is_sound

pub returns-clause-attributes_are_kept : goal.returns-clause-attributes_are_kept
returns-clause-attributes_are_kept c = attributes_are_kept

pub returns-clause-first_id : goal.returns-clause-first_id
returns-clause-first_id c = first_id

pub returns-clause-second_id : goal.returns-clause-second_id
returns-clause-second_id c = second_id

pub returns-clause-third_id : goal.returns-clause-third_id
returns-clause-third_id c = third_id

pub returns-clause-eighth_id : goal.returns-clause-eighth_id
returns-clause-eighth_id c = eighth_id
