use Rattle.std.proofs.Common.{sym, subst}
use Rattle.pass_course.specs.Course.{IsIdle}
use Rattle.edges.specs.History.{IsFront}
use Rattle.talk_words.specs.declared.role.Role.TheVariants.{Both, Reader}
use Rattle.pages_serve.proofs.Conversed.{conversed, previewed}
use Rattle.pages_serve.proofs.Idle.{idle_behind, idle_still}
use Rattle.pages_serve.specs.Talked.{HasTalked}
use Rattle.pages_serve.proofs.pages.talk_uncounted.Goals as goal
use Rattle.pages_serve.proofs.pages.talk_uncounted.Goals.{in-Readers, in-Editors, in-Previews}

pub returns-clause-idle : goal.returns-clause-idle
returns-clause-idle g c =
    elim c.match-audience.branch [
      | in-Readers w ↦
          let same = w.talk.ensures.same in
          subst (λ port. IsIdle (g.P.Port.opening port) (g.P.Port.pass port) (g.P.Port.seen port)) (sym w.port-is) (idle_still (g.P.Port.opening c.args.port.now) _ (g.P.Port.pass c.args.port.now) _ _ same.1 same.0 w.talk.ensures.grown.idle)
      | in-Editors w ↦
          let same = w.talk-in-Editors.ensures.same in
          subst (λ port. IsIdle (g.P.Port.opening port) (g.P.Port.pass port) (g.P.Port.seen port)) (sym w.port-is) (idle_still (g.P.Port.opening c.args.port.now) _ (g.P.Port.pass c.args.port.now) _ _ same.1 same.0 w.talk-in-Editors.ensures.grown.idle)
      | in-Previews w ↦
          let same = w.preview.ensures.same in
          subst (λ port. IsIdle (g.P.Port.opening port) (g.P.Port.pass port) (g.P.Port.seen port)) (sym w.port-is) (idle_behind (g.P.Port.opening c.args.port.now) _ (g.P.Port.pass c.args.port.now) _ _ _ same.1 same.0 w.preview.ensures.alone c.requires.idle)
    ]

pub returns-clause-longer : goal.returns-clause-longer
returns-clause-longer g c =
    elim c.match-audience.branch [
      | in-Readers w ↦ subst (λ port. IsFront (g.P.Port.seen c.args.port.now) (g.P.Port.seen port)) (sym w.port-is) w.talk.ensures.grown.longer
      | in-Editors w ↦ subst (λ port. IsFront (g.P.Port.seen c.args.port.now) (g.P.Port.seen port)) (sym w.port-is) w.talk-in-Editors.ensures.grown.longer
      | in-Previews w ↦ subst (λ port. IsFront (g.P.Port.seen c.args.port.now) (g.P.Port.seen port)) (sym w.port-is) w.preview.ensures.alone.longer
    ]

pub returns-clause-talked : goal.returns-clause-talked
returns-clause-talked g c =
    let x = g.P.Port.opening c.args.port.now in
    let pass = g.P.Port.pass c.args.port.now in
    let old = g.P.Port.seen c.args.port.now in
    elim c.match-audience.branch [
      | in-Readers w ↦
          let new = g.P.Port.seen w.talk.new.port in
          subst (λ port. HasTalked c.args.pages.audience x pass old (g.P.Port.seen port)) (sym w.port-is) (subst (λ audience. HasTalked audience x pass old new) (sym w.in-Readers.is) (conversed Reader x pass old new _ _ _ _ _ _ _ _ _ _ w.talk.ensures.talk.0 _ w.talk.ensures.talk.1))
      | in-Editors w ↦
          let new = g.P.Port.seen w.talk-in-Editors.new.port in
          subst (λ port. HasTalked c.args.pages.audience x pass old (g.P.Port.seen port)) (sym w.port-is) (subst (λ audience. HasTalked audience x pass old new) (sym w.in-Editors.is) (conversed Both x pass old new _ _ _ _ _ _ _ _ _ _ w.talk-in-Editors.ensures.talk.0 _ w.talk-in-Editors.ensures.talk.1))
      | in-Previews w ↦
          let new = g.P.Port.seen w.preview.new.port in
          subst (λ port. HasTalked c.args.pages.audience x pass old (g.P.Port.seen port)) (sym w.port-is) (subst (λ audience. HasTalked audience x pass old new) (sym w.in-Previews.is) (previewed x pass old new _ _ _ _ _ _ _ _ _ w.preview.ensures.talk))
    ]
