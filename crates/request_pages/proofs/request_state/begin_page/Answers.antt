use Rattle.std.proofs.Common.{ap, subst, sym, ◌∙◌}
use Rattle.out_buffer.specs.Held.{Stands}
use Rattle.out_buffer.specs.Writer.{empty_writer}
use Rattle.page_meaning.specs.Respond.{first_scopes}
use Rattle.pg_value.specs.declared.settings.PageSettings.{PageSettings}
use Rattle.request_pages.proofs.PlayedLemmas.{started_ordered, started_writer}
use Rattle.request_pages.proofs.request_state.begin_page.Goals as goal

pub returns-clause-stands : goal.returns-clause-stands
returns-clause-stands c = λ origin taken faults asking s page settings stands.
    let state = c.args.state.now in
    record {
      scopes = ap first_scopes stands.scopes ∙ sym c.restart.ensures;
      asked = stands.asked;
      ordered = started_ordered origin state.scopes state.writer taken faults state.around asking s page c.requires.uncommitted stands;
      writer =
          subst (λ (x : PageSettings). Stands origin.start origin.before c.new.result taken faults (empty_writer x.buffer x.auto_flush)) settings
          (started_writer origin.start origin.before state.writer c.new.result taken faults s.writer _ _ _ _ c.requires.uncommitted stands.writer c.new.ensures.value);
      visits = stands.visits;
      charge = stands.charge;
      id = stands.id;
      fresh = stands.fresh;
    }
