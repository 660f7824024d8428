use Rattle.std.proofs.Common.{ap, refl, sym, ◌∙◌}
use Rattle.page_machine.proofs.Lending.{lent, origin_at, stands_aside, stands_at, state_at}
use Rattle.page_machine.proofs.Returned.{page_returned, returned}
use Rattle.page_machine.proofs.running.run.Goals as goal
use Rattle.run_world.specs.Programs.{program_of}
use Rattle.run_world.specs.Seats.{raise_of}
use Rattle.std.specs.Option.{option_map}

pub run_with_exception-end-requires-clause-known : goal.run_with_exception-end-requires-clause-known
run_with_exception-end-requires-clause-known g c =
    let served = c.requires.served in
    let w = c.requires.writer in
    let around = c.args.around.now in
    let asking = g.P.AppPort.asking c.args.port.now in
    let taken = g.K.Sink.taken c.args.sink.now in
    let faults = g.K.Sink.faults c.args.sink.now in
    let origin = origin_at w.0 w.1 in
    let s = state_at c.args.scopes.now w.2 around asking in
    record {
      serving = served.serving;
      sees = record { request = served.serves.request; exception = served.serves.exception ∙ ap (option_map raise_of) (sym c.take-exception.ensures.value); stored = served.serves.stored };
      fits = served.fits;
      origin = origin;
      state = s;
      stands = lent g.met.P.AppPort.leads_here _ origin s
          (stands_aside origin c.args.scopes.now c.args.writer.now taken faults around asking s around.depth c.take-exception.new.self (stands_at c.args.scopes.now c.args.writer.now taken faults around asking w.0 w.1 w.2 w.3));
    }

pub returns : goal.returns
returns g c =
    let back = returned _ c.run_with_exception-end.new.world c.run_with_exception-end.result c.run_with_exception-end.ensures.ran g.met.P.AppPort.leads_here c.args.around.now c.take-exception.new.self refl
    c.take-exception.ensures.value c.requires.served c.requires.writer c.run_with_exception-end.ensures.covered _ _ _ _ _ _
    (record { scopes = c.scopes-1.given.1; writer = c.writer-1.given.1; sink = c.sink-1.given.1; around = c.around-1.given.1; ended = c.end_run.ensures.around; port = c.port-1.given.1 }) c.end_run.result c.end_run.ensures.end in
    record {
      ran = page_returned (program_of c.args.asked.program.now) c.args.asked.params.now c.saturating_sub-left.result _ c.run_with_exception-end.new.world c.run_with_exception-end.result c.run_with_exception-end.ensures.ran
          g.met.P.AppPort.leads_here c.args.around.now c.take-exception.new.self refl c.take-exception.ensures.value c.saturating_sub-left.ensures _ _ _ _ _ _
          (record { scopes = c.scopes-1.given.1; writer = c.writer-1.given.1; sink = c.sink-1.given.1; around = c.around-1.given.1; ended = c.end_run.ensures.around; port = c.port-1.given.1 }) c.end_run.result c.end_run.ensures.end;
      in_order = back.in_order;
      charged = back.charged;
      depth = back.depth;
      session = back.session;
      response = back.response;
      exception = back.exception;
      tree = back.tree;
      leads = back.leads;
    }
