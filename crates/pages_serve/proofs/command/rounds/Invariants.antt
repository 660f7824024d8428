use Rattle.std.proofs.Common.{◌≡◌, is_some}
use Rattle.pages_serve.specs.Rounds.{IsRound}
use Rattle.pages_server.specs.Worked.{Leads}
use Rattle.site_words.specs.Invariants.{AllRest}
use Rattle.pages_serve.proofs.command.rounds.Given as goal

abbrev pub invariant-loop : goal.invariant-loop
invariant-loop g l = record {
  rest : AllRest l.site.opening l.site.history;
  drafts : is_some l.listeners.previews ≡ is_some l.fn.listeners.previews;
  rounds : Leads (IsRound (is_some l.fn.listeners.previews)) (record { site = l.fn.site; taken = g.J.Sink.taken l.fn.journals; faults = g.J.Sink.faults l.fn.journals }) (record { site = l.site; taken = g.J.Sink.taken l.journals; faults = g.J.Sink.faults l.journals });
}
