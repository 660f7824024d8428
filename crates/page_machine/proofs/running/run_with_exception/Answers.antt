use Rattle.std.proofs.Common.{◌∙◌, sym}
use Rattle.page_machine.proofs.Lending.{raise_seen}
use Rattle.page_machine.proofs.running.run_with_exception.Goals as goal

pub enter_page-requires-clause-known : goal.enter_page-requires-clause-known
enter_page-requires-clause-known g c =
    let k = c.requires.known in
    record {
      serving = k.serving;
      serves = record { request = k.sees.request; exception = k.sees.exception ∙ sym (raise_seen c.as_ref-seen.result c.args.exception.now c.as_ref-seen.ensures.value); stored = k.sees.stored };
      fits = k.fits;
      origin = k.origin;
      state = k.state;
      stands = k.stands;
    }

pub enter_page-requires-clause-records : goal.enter_page-requires-clause-records
enter_page-requires-clause-records g c = c.none-records.ensures c.args.asked.request.now _

pub returns-clause-ran : goal.returns-clause-ran
returns-clause-ran g c = record {
  by = λ serving sees first origin s stands.
      c.enter_page.ensures.ran.by serving
      (record { request = sees.request; exception = sees.exception ∙ sym (raise_seen c.as_ref-seen.result c.args.exception.now c.as_ref-seen.ensures.value); stored = sees.stored })
      first origin s stands;
}
