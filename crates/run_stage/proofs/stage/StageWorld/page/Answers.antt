use Rattle.std.proofs.Common.{◌≤◌, ◌+◌, ap, refl, subst, sym, arith}
use Rattle.run_stage.proofs.Covering.{covered_looked, covered_plain, covered_short, look_claims, look_low, look_rises, look_room}
use Rattle.run_stage.proofs.LookMoves.{absent_doing, bad_doing, page_doing, plain_claimed, plain_doing, plain_steps, refused_doing, short_doing}
use Rattle.run_stage.proofs.stage.StageWorld.page.Goals as goal
use Rattle.run_world.specs.Programs.{program_of}
use Rattle.run_world.specs.declared.program.Program as machine_program
use Rattle.site_words.specs.Running.{IsPaged, page_claim}
use Rattle.site_words.specs.declared.app_port.Paged.{Paged}
use Rattle.site_words.specs.declared.app_port.Paged.TheVariants as found
use Rattle.source_tree.specs.Edits.{file_at}
use Rattle.std.specs.Arc.{arc_value}

pub returns-then-is_refused-clause-does : goal.returns-then-is_refused-clause-does
returns-then-is_refused-clause-does g c = λ serving stores. refused_doing c.args.self.now serving c.args.path.now (sym c.if-is_refused.ensures)

pub page-requires : goal.page-requires
page-requires g c =
    let w = c.args.self.now in
    let claim = c.look_charge-charge.ensures in
    let short : page_claim c.args.path.now ≤ 2208 = omega (arith, claim.claim, claim.short) in
    record {
      room = look_room (page_claim c.args.path.now) w.around.now.charge (g.P.AppPort.asking w.port.now).left (look_claims c.args.path.now w.around.now.charge (sym c.if-is_refused.ensures) short) c.requires.covered.charge
          c.requires.covered.promise;
    }

pub overflow_add-self : goal.overflow_add-self
overflow_add-self g c =
    let w = c.args.self.now in
    let path = c.args.path.now in
    let claim = c.look_charge-charge.ensures in
    let short : page_claim path ≤ 2208 = omega (arith, claim.claim, claim.short) in
    let claims = look_claims path w.around.now.charge (sym c.if-is_refused.ensures) short in
    let low = look_low (page_claim path) w.around.now.charge claims c.requires.covered.charge in
    omega (arith, low, claim.claim)

pub returns-in_default-clause-covered : goal.returns-in_default-clause-covered
returns-in_default-clause-covered g c =
    let w = c.args.self.now in
    let path = c.args.path.now in
    let claim = c.look_charge-charge.ensures in
    let short : page_claim path ≤ 2208 = omega (arith, claim.claim, claim.short) in
    let claims = look_claims path w.around.now.charge (sym c.if-is_refused.ensures) short in
    covered_short w.scopes.now.session w.around.now.id w.around.now.visits w.around.now.charge (w.around.now.charge + c.look_charge-charge.result) (g.P.AppPort.asking w.port.now) (g.P.AppPort.asking c.page.new.self) path
    (file_at path (g.P.AppPort.tree w.port.now)) c.requires.covered c.in_default.ensures.looked claims (ap (λ k. w.around.now.charge + k) claim.claim)

pub returns-in_default-clause-does : goal.returns-in_default-clause-does
returns-in_default-clause-does g c = λ serving stores.
    let w = c.args.self.now in
    let path = c.args.path.now in
    let claim = c.look_charge-charge.ensures in
    let short : page_claim path ≤ 2208 = omega (arith, claim.claim, claim.short) in
    let claims = look_claims path w.around.now.charge (sym c.if-is_refused.ensures) short in
    short_doing g.P.AppPort.made g.P.AppPort.faulty g.met.P.AppPort.leads_on w c.page.new.self serving path (sym c.if-is_refused.ensures) stores c.in_default.ensures.leads c.in_default.ensures.tree c.in_default.ensures.looked (w.around.now.charge + c.look_charge-charge.result) (ap (λ k. w.around.now.charge + k) claim.claim)
    (look_rises (page_claim path) w.around.now.charge (w.around.now.charge + c.look_charge-charge.result) claims (ap (λ k. w.around.now.charge + k) claim.claim))

pub returns-in-Absent-clause-does : goal.returns-in-Absent-clause-does
returns-in-Absent-clause-does g c = λ serving stores.
    let w = c.args.self.now in
    let path = c.args.path.now in
    let paged : IsPaged g.P.AppPort.made g.P.AppPort.faulty (g.P.AppPort.tree w.port.now) path found.Absent =
    subst (λ (x : Paged machine_program.Program). IsPaged g.P.AppPort.made g.P.AppPort.faulty (g.P.AppPort.tree w.port.now) path x) c.in-Absent.is c.in-Ok.ensures.paged in
    absent_doing g.P.AppPort.made g.P.AppPort.faulty g.met.P.AppPort.leads_on w c.page.new.self serving path (sym c.if-is_refused.ensures) stores c.in-Ok.ensures.leads c.in-Ok.ensures.tree c.in-Ok.ensures.looked w.around.now.charge refl paged

pub returns-in-Plain-clause-covered : goal.returns-in-Plain-clause-covered
returns-in-Plain-clause-covered g c =
    let w = c.args.self.now in
    let path = c.args.path.now in
    let file = file_at path (g.P.AppPort.tree w.port.now) in
    let paged : IsPaged g.P.AppPort.made g.P.AppPort.faulty (g.P.AppPort.tree w.port.now) path (found.Plain c.in-Plain.text) =
    subst (λ (x : Paged machine_program.Program). IsPaged g.P.AppPort.made g.P.AppPort.faulty (g.P.AppPort.tree w.port.now) path x) c.in-Plain.is c.in-Ok.ensures.paged in
    covered_plain w.scopes.now.session w.around.now.id w.around.now.visits w.around.now.charge (g.P.AppPort.asking w.port.now) (g.P.AppPort.asking c.page.new.self) path file c.requires.covered c.in-Ok.ensures.looked
    (plain_claimed path (plain_steps path file c.in-Plain.text paged).0)

pub returns-in-Plain-clause-does : goal.returns-in-Plain-clause-does
returns-in-Plain-clause-does g c = λ serving stores.
    let w = c.args.self.now in
    let path = c.args.path.now in
    let paged : IsPaged g.P.AppPort.made g.P.AppPort.faulty (g.P.AppPort.tree w.port.now) path (found.Plain c.in-Plain.text) =
    subst (λ (x : Paged machine_program.Program). IsPaged g.P.AppPort.made g.P.AppPort.faulty (g.P.AppPort.tree w.port.now) path x) c.in-Plain.is c.in-Ok.ensures.paged in
    plain_doing g.P.AppPort.made g.P.AppPort.faulty g.met.P.AppPort.leads_on w c.page.new.self serving path (sym c.if-is_refused.ensures) stores c.in-Ok.ensures.leads c.in-Ok.ensures.tree c.in-Ok.ensures.looked w.around.now.charge c.in-Plain.text refl paged

pub overflow_add-self-in-Bad : goal.overflow_add-self-in-Bad
overflow_add-self-in-Bad g c =
    let w = c.args.self.now in
    let path = c.args.path.now in
    let claim = c.look_charge-charge.ensures in
    let short : page_claim path ≤ 2208 = omega (arith, claim.claim, claim.short) in
    let claims = look_claims path w.around.now.charge (sym c.if-is_refused.ensures) short in
    let low = look_low (page_claim path) w.around.now.charge claims c.requires.covered.charge in
    omega (arith, low, claim.claim)

pub returns-in-Bad-clause-covered : goal.returns-in-Bad-clause-covered
returns-in-Bad-clause-covered g c =
    let w = c.args.self.now in
    let path = c.args.path.now in
    let claim = c.look_charge-charge.ensures in
    let short : page_claim path ≤ 2208 = omega (arith, claim.claim, claim.short) in
    let claims = look_claims path w.around.now.charge (sym c.if-is_refused.ensures) short in
    covered_looked w.scopes.now.session w.around.now.id w.around.now.visits w.around.now.charge (w.around.now.charge + c.look_charge-charge.result) (g.P.AppPort.asking w.port.now) (g.P.AppPort.asking c.page.new.self) path
    (file_at path (g.P.AppPort.tree w.port.now)) c.requires.covered c.in-Ok.ensures.looked claims (ap (λ k. w.around.now.charge + k) claim.claim)

pub returns-in-Bad-clause-does : goal.returns-in-Bad-clause-does
returns-in-Bad-clause-does g c = λ serving stores.
    let w = c.args.self.now in
    let path = c.args.path.now in
    let claim = c.look_charge-charge.ensures in
    let short : page_claim path ≤ 2208 = omega (arith, claim.claim, claim.short) in
    let claims = look_claims path w.around.now.charge (sym c.if-is_refused.ensures) short in
    let paged : IsPaged g.P.AppPort.made g.P.AppPort.faulty (g.P.AppPort.tree w.port.now) path (found.Bad c.in-Bad.field-0) =
    subst (λ (x : Paged machine_program.Program). IsPaged g.P.AppPort.made g.P.AppPort.faulty (g.P.AppPort.tree w.port.now) path x) c.in-Bad.is c.in-Ok.ensures.paged in
    bad_doing g.P.AppPort.made g.P.AppPort.faulty g.met.P.AppPort.leads_on w c.page.new.self serving path (sym c.if-is_refused.ensures) stores c.in-Ok.ensures.leads c.in-Ok.ensures.tree c.in-Ok.ensures.looked (w.around.now.charge + c.look_charge-charge.result) (ap (λ k. w.around.now.charge + k) claim.claim)
    (look_rises (page_claim path) w.around.now.charge (w.around.now.charge + c.look_charge-charge.result) claims (ap (λ k. w.around.now.charge + k) claim.claim)) c.in-Bad.field-0 paged

pub overflow_add-self-in-Page : goal.overflow_add-self-in-Page
overflow_add-self-in-Page g c =
    let w = c.args.self.now in
    let path = c.args.path.now in
    let claim = c.look_charge-charge.ensures in
    let short : page_claim path ≤ 2208 = omega (arith, claim.claim, claim.short) in
    let claims = look_claims path w.around.now.charge (sym c.if-is_refused.ensures) short in
    let low = look_low (page_claim path) w.around.now.charge claims c.requires.covered.charge in
    omega (arith, low, claim.claim)

pub returns-clause-covered : goal.returns-clause-covered
returns-clause-covered g c =
    let w = c.args.self.now in
    let path = c.args.path.now in
    let claim = c.look_charge-charge.ensures in
    let short : page_claim path ≤ 2208 = omega (arith, claim.claim, claim.short) in
    let claims = look_claims path w.around.now.charge (sym c.if-is_refused.ensures) short in
    covered_looked w.scopes.now.session w.around.now.id w.around.now.visits w.around.now.charge (w.around.now.charge + c.look_charge-charge.result) (g.P.AppPort.asking w.port.now) (g.P.AppPort.asking c.page.new.self) path
    (file_at path (g.P.AppPort.tree w.port.now)) c.requires.covered c.in-Ok.ensures.looked claims (ap (λ k. w.around.now.charge + k) claim.claim)

pub returns-clause-does : goal.returns-clause-does
returns-clause-does g c = λ serving stores.
    let w = c.args.self.now in
    let path = c.args.path.now in
    let claim = c.look_charge-charge.ensures in
    let short : page_claim path ≤ 2208 = omega (arith, claim.claim, claim.short) in
    let claims = look_claims path w.around.now.charge (sym c.if-is_refused.ensures) short in
    let paged : IsPaged g.P.AppPort.made g.P.AppPort.faulty (g.P.AppPort.tree w.port.now) path (found.Page c.in-Page.program) =
    subst (λ (x : Paged machine_program.Program). IsPaged g.P.AppPort.made g.P.AppPort.faulty (g.P.AppPort.tree w.port.now) path x) c.in-Page.is c.in-Ok.ensures.paged in
    page_doing g.P.AppPort.made g.P.AppPort.faulty g.met.P.AppPort.leads_on w c.page.new.self serving path (sym c.if-is_refused.ensures) stores c.in-Ok.ensures.leads c.in-Ok.ensures.tree c.in-Ok.ensures.looked (w.around.now.charge + c.look_charge-charge.result) (ap (λ k. w.around.now.charge + k) claim.claim)
    (look_rises (page_claim path) w.around.now.charge (w.around.now.charge + c.look_charge-charge.result) claims (ap (λ k. w.around.now.charge + k) claim.claim))
    (found.Page c.in-Page.program) (program_of (arc_value c.in-Page.program)) refl paged.0 (stores.told path (found.Page c.in-Page.program) paged)
