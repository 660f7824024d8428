use Rattle.std.proofs.Common.{◌≡◌, ◌-◌, map, set, Some, None, refl, sym, ap, subst, ◌∙◌}
use Rattle.site_words.specs.Runs.{promised}
use Rattle.site_words.specs.Step.{busy, full_of, or_else}
use Rattle.site_words.specs.Weights.{promise}
use Rattle.site_state.specs.Parts.{parts_of, under_in}
use Rattle.site_state.specs.ReadSessions.{found_at, held_by, number_in}
use Rattle.site_state.proofs.RequestSteps.{begin_done, begin_refusal}
use Rattle.site_state.proofs.held.Held.begin.Goals as goal

pub returns-in-Some : goal.returns-in-Some
returns-in-Some g c =
    let found : c.session_at-found.result ≡ found_at c.args.at.opening.now.seed c.args.cookie.now c.args.self.now.sessions = c.session_at-found.ensures in
    let is : Some c.in-Some.refusal ≡ busy (held_by (found_at c.args.at.opening.now.seed c.args.cookie.now c.args.self.now.sessions) (map under_in c.args.self.now.runs.items)) =
    c.in-Some.ensures ∙ (ap (λ r. busy (held_by c.session_at-found.result (map under_in r))) c.deref.ensures.value ∙ ap (λ f. busy (held_by f (map under_in c.args.self.now.runs.items))) found) in (
      begin_refusal g.P.Compiled.needs g.P.Compiled.made c.args.at.opening.now c.args.at.history.now.items (parts_of c.args.self.now) c.args.at.pass c.args.cookie.now c.args.moment
          ∙ ap (λ h. or_else h (full_of c.args.at.opening.now.limit c.args.self.now.weight (promised (map under_in c.args.self.now.runs.items)) promise)) (sym is),
      refl,
    )

pub returns-in-Err : goal.returns-in-Err
returns-in-Err g c =
    let found : c.session_at-found.result ≡ found_at c.args.at.opening.now.seed c.args.cookie.now c.args.self.now.sessions = c.session_at-found.ensures in
    let busy_is : None ≡ busy (held_by (found_at c.args.at.opening.now.seed c.args.cookie.now c.args.self.now.sessions) (map under_in c.args.self.now.runs.items)) =
    c.in_default.ensures ∙ (ap (λ r. busy (held_by c.session_at-found.result (map under_in r))) c.deref.ensures.value ∙ ap (λ f. busy (held_by f (map under_in c.args.self.now.runs.items))) found) in
    let full_is : Some c.in-Err.refusal ≡ full_of c.args.at.opening.now.limit c.args.self.now.weight (promised (map under_in c.args.self.now.runs.items)) promise =
    subst (λ r. Some c.in-Err.refusal ≡ full_of c.args.at.opening.now.limit c.args.self.now.weight (promised (map under_in r)) promise) c.deref-2.ensures.value (c.in-Err.ensures.full promise refl) in (
      begin_refusal g.P.Compiled.needs g.P.Compiled.made c.args.at.opening.now c.args.at.history.now.items (parts_of c.args.self.now) c.args.at.pass c.args.cookie.now c.args.moment
          ∙ (ap (λ h. or_else h (full_of c.args.at.opening.now.limit c.args.self.now.weight (promised (map under_in c.args.self.now.runs.items)) promise)) (sym busy_is) ∙ sym full_is),
      refl,
    )

pub returns : goal.returns
returns g c =
    let found : c.session_at-found.result ≡ found_at c.args.at.opening.now.seed c.args.cookie.now c.args.self.now.sessions = c.session_at-found.ensures in
    let busy_is : None ≡ busy (held_by (found_at c.args.at.opening.now.seed c.args.cookie.now c.args.self.now.sessions) (map under_in c.args.self.now.runs.items)) =
    c.in_default.ensures ∙ (ap (λ r. busy (held_by c.session_at-found.result (map under_in r))) c.deref.ensures.value ∙ ap (λ f. busy (held_by f (map under_in c.args.self.now.runs.items))) found) in
    let full_is : None ≡ full_of c.args.at.opening.now.limit c.args.self.now.weight (promised (map under_in c.args.self.now.runs.items)) promise =
    subst (λ r. None ≡ full_of c.args.at.opening.now.limit c.args.self.now.weight (promised (map under_in r)) promise) c.deref-2.ensures.value (c.in_default-room.ensures.fits promise refl).1 in
    let runs : map under_in c.seat.new.runs.items ≡ set (map under_in c.args.self.now.runs.items) c.args.at.pass
    (Some (record { run = record { request = c.args.self.now.begins; version = c.args.self.now.version; session = number_in c.awake-session.result; left = promise - c.args.weight }; tree = c.args.self.now.tree.value })) =
    c.seat.ensures ∙ (λ i. set (map under_in c.args.self.now.runs.items) c.args.at.pass
    (Some (record { run = record { request = c.args.self.now.begins; version = c.args.self.now.version; session = c.number_of.ensures i; left = c.saturating_sub.ensures i }; tree = c.in-Ok.ensures i }))) in
    begin_done g.P.Compiled.needs g.P.Compiled.made c.args.at.opening.now c.args.at.history.now.items (parts_of c.args.self.now) _ c.args.at.pass c.args.weight c.saturating_add-self.result c.args.moment c.later-now.result c.args.cookie.now
    c.session_at-found.result c.awake-session.result c.in-Ok-begun.done c.begin_session.new.sessions (map under_in c.seat.new.runs.items) c.requires.can
    (begin_refusal g.P.Compiled.needs g.P.Compiled.made c.args.at.opening.now c.args.at.history.now.items (parts_of c.args.self.now) c.args.at.pass c.args.cookie.now c.args.moment
    ∙ (ap (λ h. or_else h (full_of c.args.at.opening.now.limit c.args.self.now.weight (promised (map under_in c.args.self.now.runs.items)) promise)) (sym busy_is) ∙ sym full_is))
    refl found c.later-now.ensures c.awake-session.ensures c.begin_session.ensures runs c.saturating_add-self.ensures c.requires.weight c.in-Ok-begun.ensures
