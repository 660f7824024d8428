use Rattle.std.proofs.Common.{◌≡◌, [], take}
use Rattle.site_state.specs.Sources.{AreThere, sessions_of}
use Rattle.site_state.proofs.held.start.opened_sessions.Given as goal

-- the sessions up to this one
abbrev pub invariant-loop-index : goal.invariant-loop-index
invariant-loop-index l = record { sessions : sessions_of l.opened [] l.sessions ≡ take l.index l.opened; there : AreThere 0 l.sessions }
