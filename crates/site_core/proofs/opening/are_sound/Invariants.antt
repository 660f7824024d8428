use Rattle.std.proofs.Common.{◌≡◌, drop}
use Rattle.site_words.specs.Opening.{is_sound_session}
use Rattle.site_words.specs.Trees.{every}
use Rattle.site_core.proofs.opening.are_sound.Given as goal

abbrev pub invariant-loop-session : goal.invariant-loop-session
invariant-loop-session l = every (is_sound_session l.opening) (drop l.session-index l.sessions) ≡ every (is_sound_session l.opening) l.sessions
