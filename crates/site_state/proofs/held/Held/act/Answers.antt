use Rattle.std.proofs.Common.{None, subst}
use Rattle.edges.specs.declared.acted.Acted.TheVariants.{Did}
use Rattle.site_words.specs.declared.words.Op.TheVariants as op
use Rattle.site_words.specs.Runs.{under_at}
use Rattle.site_state.specs.Gifts.{IsMadeHere, value_in}
use Rattle.site_state.specs.Parts.{parts_of}
use Rattle.site_state.proofs.Arms.{arm_can, arm_weight, arm_works}
use Rattle.site_state.proofs.held.Held.act.Goals as goal

pub publish-requires : goal.publish-requires
publish-requires g c =
    arm_can g.P.Compiled.needs g.P.Compiled.made c.args.opening.now c.args.history.now.items (parts_of c.args.self.now) c.args.pass c.args.op.now (op.Publish c.in-Publish.base c.in-Publish.edits) (value_in c.args.made) None c.in-Publish.is c.requires tt

pub returns-in-Publish-clause-works : goal.returns-in-Publish-clause-works
returns-in-Publish-clause-works g c =
    arm_works g.P.Compiled.needs g.P.Compiled.made c.args.opening.now c.args.history.now.items (parts_of c.args.self.now) (parts_of c.publish.new.self) c.args.pass c.args.op.now (op.Publish c.in-Publish.base c.in-Publish.edits) c.publish.result c.in-Publish.is c.publish.ensures

pub begin-requires-clause-can : goal.begin-requires-clause-can
begin-requires-clause-can g c =
    arm_can g.P.Compiled.needs g.P.Compiled.made c.args.opening.now c.args.history.now.items (parts_of c.args.self.now) c.args.pass c.args.op.now (op.Begin c.in-Begin.cookie c.in-Begin.moment) (value_in c.args.made) None c.in-Begin.is c.requires tt

pub begin-requires-clause-weight : goal.begin-requires-clause-weight
begin-requires-clause-weight g c = arm_weight c.op_weight.result c.args.op.now (op.Begin c.in-Begin.cookie c.in-Begin.moment) c.in-Begin.is c.op_weight.ensures

pub returns-in-Begin-clause-works : goal.returns-in-Begin-clause-works
returns-in-Begin-clause-works g c =
    arm_works g.P.Compiled.needs g.P.Compiled.made c.args.opening.now c.args.history.now.items (parts_of c.args.self.now) (parts_of c.begin.new.self) c.args.pass c.args.op.now (op.Begin c.in-Begin.cookie c.in-Begin.moment) c.begin.result c.in-Begin.is c.begin.ensures

pub app-requires-clause-can : goal.app-requires-clause-can
app-requires-clause-can g c =
    arm_can g.P.Compiled.needs g.P.Compiled.made c.args.opening.now c.args.history.now.items (parts_of c.args.self.now) c.args.pass c.args.op.now (op.App c.in-App.request c.in-App.step) (value_in c.args.made) None c.in-App.is c.requires tt

pub app-requires-clause-weight : goal.app-requires-clause-weight
app-requires-clause-weight g c = arm_weight c.op_weight-in-App.result c.args.op.now (op.App c.in-App.request c.in-App.step) c.in-App.is c.op_weight-in-App.ensures

pub returns-in-App-clause-works : goal.returns-in-App-clause-works
returns-in-App-clause-works g c =
    arm_works g.P.Compiled.needs g.P.Compiled.made c.args.opening.now c.args.history.now.items (parts_of c.args.self.now) (parts_of c.app.new.self) c.args.pass c.args.op.now (op.App c.in-App.request c.in-App.step) c.app.result c.in-App.is c.app.ensures

pub fresh-requires-clause-can : goal.fresh-requires-clause-can
fresh-requires-clause-can g c =
    arm_can g.P.Compiled.needs g.P.Compiled.made c.args.opening.now c.args.history.now.items (parts_of c.args.self.now) c.args.pass c.args.op.now (op.Fresh c.in-Fresh.request) (value_in c.args.made) None c.in-Fresh.is c.requires tt

pub fresh-requires-clause-weight : goal.fresh-requires-clause-weight
fresh-requires-clause-weight g c = arm_weight c.op_weight-in-Fresh.result c.args.op.now (op.Fresh c.in-Fresh.request) c.in-Fresh.is c.op_weight-in-Fresh.ensures

pub returns-in-Fresh-clause-works : goal.returns-in-Fresh-clause-works
returns-in-Fresh-clause-works g c =
    arm_works g.P.Compiled.needs g.P.Compiled.made c.args.opening.now c.args.history.now.items (parts_of c.args.self.now) (parts_of c.fresh.new.self) c.args.pass c.args.op.now (op.Fresh c.in-Fresh.request) c.fresh.result c.in-Fresh.is c.fresh.ensures

pub fetch-requires-clause-can : goal.fetch-requires-clause-can
fetch-requires-clause-can g c =
    arm_can g.P.Compiled.needs g.P.Compiled.made c.args.opening.now c.args.history.now.items (parts_of c.args.self.now) c.args.pass c.args.op.now (op.Fetch c.in-Fetch.request c.in-Fetch.path) (value_in c.args.made) None c.in-Fetch.is c.requires tt

pub fetch-requires-clause-weight : goal.fetch-requires-clause-weight
fetch-requires-clause-weight g c = arm_weight c.op_weight-in-Fetch.result c.args.op.now (op.Fetch c.in-Fetch.request c.in-Fetch.path) c.in-Fetch.is c.op_weight-in-Fetch.ensures

pub returns-in-Fetch-clause-works : goal.returns-in-Fetch-clause-works
returns-in-Fetch-clause-works g c =
    arm_works g.P.Compiled.needs g.P.Compiled.made c.args.opening.now c.args.history.now.items (parts_of c.args.self.now) (parts_of c.fetch.new.self) c.args.pass c.args.op.now (op.Fetch c.in-Fetch.request c.in-Fetch.path) c.fetch.result c.in-Fetch.is c.fetch.ensures

pub offer-requires-clause-can : goal.offer-requires-clause-can
offer-requires-clause-can g c =
    arm_can g.P.Compiled.needs g.P.Compiled.made c.args.opening.now c.args.history.now.items (parts_of c.args.self.now) c.args.pass c.args.op.now (op.Offer c.in-Offer.request c.in-Offer.path) (value_in c.args.made) (value_in c.args.made) c.in-Offer.is c.requires (subst (λ o. IsMadeHere g.P.Compiled.made (under_at (parts_of c.args.self.now).runs c.args.pass) o (value_in c.args.made)) c.in-Offer.is c.requires.value)

pub offer-requires-clause-weight : goal.offer-requires-clause-weight
offer-requires-clause-weight g c = arm_weight c.op_weight-in-Offer.result c.args.op.now (op.Offer c.in-Offer.request c.in-Offer.path) c.in-Offer.is c.op_weight-in-Offer.ensures

pub returns-in-Offer-clause-works : goal.returns-in-Offer-clause-works
returns-in-Offer-clause-works g c =
    arm_works g.P.Compiled.needs g.P.Compiled.made c.args.opening.now c.args.history.now.items (parts_of c.args.self.now) (parts_of c.offer.new.self) c.args.pass c.args.op.now (op.Offer c.in-Offer.request c.in-Offer.path) c.offer.result c.in-Offer.is c.offer.ensures

pub end-requires-clause-can : goal.end-requires-clause-can
end-requires-clause-can g c =
    arm_can g.P.Compiled.needs g.P.Compiled.made c.args.opening.now c.args.history.now.items (parts_of c.args.self.now) c.args.pass c.args.op.now (op.End c.in-End.request c.in-End.attrs) (value_in c.args.made) None c.in-End.is c.requires tt

pub end-requires-clause-weight : goal.end-requires-clause-weight
end-requires-clause-weight g c = arm_weight c.op_weight-in-End.result c.args.op.now (op.End c.in-End.request c.in-End.attrs) c.in-End.is c.op_weight-in-End.ensures

pub returns-in-End-clause-works : goal.returns-in-End-clause-works
returns-in-End-clause-works g c =
    arm_works g.P.Compiled.needs g.P.Compiled.made c.args.opening.now c.args.history.now.items (parts_of c.args.self.now) (parts_of c.end.new.self) c.args.pass c.args.op.now (op.End c.in-End.request c.in-End.attrs) (Did c.end.result) c.in-End.is c.end.ensures

pub abandon-requires-clause-can : goal.abandon-requires-clause-can
abandon-requires-clause-can g c =
    arm_can g.P.Compiled.needs g.P.Compiled.made c.args.opening.now c.args.history.now.items (parts_of c.args.self.now) c.args.pass c.args.op.now (op.Abandon c.in-Abandon.request) (value_in c.args.made) None c.in-Abandon.is c.requires tt

pub abandon-requires-clause-weight : goal.abandon-requires-clause-weight
abandon-requires-clause-weight g c = arm_weight c.op_weight-in-Abandon.result c.args.op.now (op.Abandon c.in-Abandon.request) c.in-Abandon.is c.op_weight-in-Abandon.ensures

pub returns-in-Abandon-clause-works : goal.returns-in-Abandon-clause-works
returns-in-Abandon-clause-works g c =
    arm_works g.P.Compiled.needs g.P.Compiled.made c.args.opening.now c.args.history.now.items (parts_of c.args.self.now) (parts_of c.abandon.new.self) c.args.pass c.args.op.now (op.Abandon c.in-Abandon.request) (Did c.abandon.result) c.in-Abandon.is c.abandon.ensures

pub snapshot-requires-clause-can : goal.snapshot-requires-clause-can
snapshot-requires-clause-can g c =
    arm_can g.P.Compiled.needs g.P.Compiled.made c.args.opening.now c.args.history.now.items (parts_of c.args.self.now) c.args.pass c.args.op.now (op.Snapshot c.in-Snapshot.cookie) (value_in c.args.made) None c.in-Snapshot.is c.requires tt

pub snapshot-requires-clause-weight : goal.snapshot-requires-clause-weight
snapshot-requires-clause-weight g c = arm_weight c.op_weight-in-Snapshot.result c.args.op.now (op.Snapshot c.in-Snapshot.cookie) c.in-Snapshot.is c.op_weight-in-Snapshot.ensures

pub returns-in-Snapshot-clause-works : goal.returns-in-Snapshot-clause-works
returns-in-Snapshot-clause-works g c =
    arm_works g.P.Compiled.needs g.P.Compiled.made c.args.opening.now c.args.history.now.items (parts_of c.args.self.now) (parts_of c.snapshot.new.self) c.args.pass c.args.op.now (op.Snapshot c.in-Snapshot.cookie) c.snapshot.result c.in-Snapshot.is c.snapshot.ensures
