use Rattle.std.proofs.Common.{◌≡◌, drop, map}
use Rattle.site_words.specs.Sessions.{holder_of}
use Rattle.site_state.specs.Parts.{under_in}
use Rattle.site_state.proofs.sessions.holder_of.Given as goal

abbrev pub invariant-loop-request : goal.invariant-loop-request
invariant-loop-request l = holder_of l.number (map under_in (drop l.request-index l.runs)) ≡ holder_of l.number (map under_in l.runs)
