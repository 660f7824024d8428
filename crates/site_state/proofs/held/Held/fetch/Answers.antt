use Rattle.std.proofs.Common.{map, refl}
use Rattle.site_state.specs.Parts.{parts_of, under_in}
use Rattle.site_state.proofs.Keeping.{Laws}
use Rattle.site_state.proofs.ValueSteps.{fetch_done}
use Rattle.site_state.proofs.held.Held.fetch.Goals as goal

pub returns : goal.returns
returns g c =
    let laws : Laws g.P.Compiled.needs g.P.Compiled.made g.P.Compiled.needed = record { keeps = g.met.P.Compiled.keeps; stand = g.met.P.Compiled.stand; agreeing = g.met.P.Compiled.agreeing } in
    fetch_done g.P.Compiled.needs g.P.Compiled.made g.P.Compiled.needed laws c.args.at.opening.now c.args.at.history.now.items (parts_of c.args.self.now) _ c.args.at.pass c.args.request c.args.weight c.saturating_add-self.result c.args.path.now c.in-Ok.done
    (map under_in c.spend.new.runs.items) c.requires.can refl
    c.spend.ensures
    c.saturating_add-self.ensures c.requires.weight c.in-Ok.ensures
