use Rattle.std.proofs.Common.{◌≡◌, ◌<◌, ◌≤◌, ◌-◌, ◌+◌, ◌∙◌, ap, arith, drop, length, map, refl, rules, subst, sym, zero}
use Rattle.std.specs.Option.{option_map}
use Rattle.page_directives.specs.Meet.{nothing_before}
use Rattle.jstl_tags.specs.Elements.{opened_of}
use Rattle.unit_source.specs.declared.root.Root.{Root as Kept}
use Rattle.unit_source.specs.Files.{text_in}
use Rattle.unit_source.specs.InPlace.{flat}
use Rattle.unit_source.specs.Placed.{in_place, root_view}
use Rattle.unit_words.specs.Calls.{Called}
use Rattle.unit_words.specs.Elements.{outermost}
use Rattle.unit_words.specs.Walk.{file_met, met_within, nested}
use Rattle.unit_judges.specs.Made.{here_made, kind_made}
use Rattle.unit_build.specs.declared.course.Course.{Course}
use Rattle.unit_build.specs.MadeSteps.{step_made}
use Rattle.unit_build.specs.ReadFound.{IsRead, state_in}
use Rattle.unit_build.specs.ReadSteps.{left_out, left_out_still, step_met, steps_of, steps_met}
use Rattle.unit_build.specs.ReadWalk.{IsOwn, IsStarted, Leads}
use Rattle.unit_build.proofs.LeadsLemmas.{leads_left, leads_taken, out_still, out_then}
use Rattle.unit_build.proofs.OkLemmas.{on_ok}
use Rattle.unit_build.proofs.ReadLemmas.{read_within, started_entered}
use Rattle.unit_build.proofs.walk.+walk.Goals.{take_steps-then-left_out-gt0, take_steps-else-left_out-gt0+in_ok-left_out}
use Rattle.unit_build.proofs.walk.+walk.Goals as goal

pub take_steps-loop-step-preserved : goal.take_steps-loop-step-preserved
take_steps-loop-step-preserved t c =
    let first = c.args.course.now in
    let old = c.args.found.now in
    let files = text_in old.site in
    let root = root_view first.root in
    let enter = met_within c.args.deep files in
    let steps = c.args.steps.now in
    let i = c.loop-step.step-index in
    let step = c.step-item.result in
    let course = c.loop-step.course in
    let now = c.loop-step.found in
    let behind = c.if-left_out-gt0 in
    let all = steps_met files root enter zero (map step_made steps) (state_in first.before old) in
    let rest = map step_made (drop (i + 1) steps) in
    let within : i < length steps = c.loop-step-test.true in
    elim c.if-left_out-gt0.branch [
      | take_steps-then-left_out-gt0 w ↦
          let next : behind.left_out ≡ left_out_still (step_made step) c.loop-step.left_out = w.left_out-is ∙ w.left_out_still-left_out.ensures in
          let leads : Leads old now (steps_met files root enter behind.left_out rest (state_in course.before now)) all =
          leads_left files root enter steps i step c.loop-step.left_out behind.left_out (state_in course.before now) within c.step-item.is w.if-left_out-gt0.true next c.loop-step.invariant.leads in
          record {
            within = subst (λ n. n ≤ i + 1) (sym next) (out_still (step_made step) c.loop-step.left_out i c.loop-step.invariant.within);
            root = ap (λ (g : Course). g.root) w.course-is ∙ c.loop-step.invariant.root;
            own = subst IsOwn (sym w.course-is) c.loop-step.invariant.own;
            leads = subst (λ (g : Course). Leads old behind.found (steps_met files root enter behind.left_out rest (state_in g.before behind.found)) all) (sym w.course-is)
                (subst (λ f. Leads old f (steps_met files root enter behind.left_out rest (state_in course.before f)) all) (sym w.found-is) leads);
          }
      | take_steps-else-left_out-gt0+in_ok-left_out w ↦
          let took = w.take_step.new in
          let s = state_in course.before now in
          let next : behind.left_out ≡ left_out (step_made step) s = w.left_out-is ∙ w.in_ok-left_out.ensures.out in
          let none : c.loop-step.left_out ≡ zero = omega (arith, w.if-left_out-gt0.false) in
          let read : IsRead now took.found (state_in took.course.before took.found) (step_met files root enter (step_made step) s) =
          subst (λ (r : Kept). IsRead now took.found (state_in took.course.before took.found) (step_met files (root_view r) enter (step_made step) s)) c.loop-step.invariant.root
          (subst (λ site. IsRead now took.found (state_in took.course.before took.found) (step_met (text_in site) (root_view course.root) (met_within c.args.deep (text_in site)) (step_made step) s))
          c.loop-step.invariant.leads.site w.in_ok-left_out.ensures.met) in
          let leads : Leads old took.found (steps_met files root enter behind.left_out rest (state_in took.course.before took.found)) all =
          leads_taken files root enter steps i step c.loop-step.left_out behind.left_out s within c.step-item.is none next c.loop-step.invariant.leads read in
          record {
            within = subst (λ n. n ≤ i + 1) (sym next) (out_then (step_made step) s i);
            root = ap (λ (g : Course). g.root) w.course-is ∙ w.in_ok-left_out.ensures.root ∙ c.loop-step.invariant.root;
            own = subst IsOwn (sym w.course-is) w.in_ok-left_out.ensures.own;
            leads = subst (λ (g : Course). Leads old behind.found (steps_met files root enter behind.left_out rest (state_in g.before behind.found)) all) (sym w.course-is)
                (subst (λ f. Leads old f (steps_met files root enter behind.left_out rest (state_in took.course.before f)) all) (sym w.found-is) leads);
          }
    ]

pub take_course-returns : goal.take_course-returns
take_course-returns t c =
    let old = c.args.found.now in
    let files = text_in old.site in
    let course = c.args.course.now in
    let root = root_view course.root in
    let new = c.take_steps.new.found in
    let after = state_in c.take_steps.new.course.before new in
    let lent : map step_made c.deref.result.now ≡ map step_made c.in_ok-steps.steps.items = search rules in
    let steps : map step_made c.deref.result.now ≡ steps_of root.directives outermost root.nodes = lent ∙ c.in_ok-steps.ensures in
    on_ok c.take_steps.result c.take_steps.ensures
    (λ is. subst (λ all. IsRead old new after (steps_met files root (met_within c.args.deep files) zero all (state_in course.before old))) steps is)

pub read_root-returns : goal.read_root-returns
read_root-returns t c =
    let old = c.args.found.now in
    let files = text_in old.site in
    let root = root_view c.args.root.now in
    let less = c.args.deep - 1 in
    let course = c.deref_mut.result.now in
    let lent : course ≡ c.in_ok-course.course.value = search rules in
    let none : course.before ≡ nothing_before = ap (λ (g : Course). g.before) lent ∙ c.in_ok-course.ensures.before in
    let of_root : course.root ≡ c.args.root.now = ap (λ (g : Course). g.root) lent ∙ c.in_ok-course.ensures.root in
    let new = c.take_course-read.new.found in
    let after = state_in c.take_course-read.new.course.before new in
    let all = steps_of root.directives outermost root.nodes in
    on_ok c.take_course-read.result c.take_course-read.ensures
    (λ is before. read_within before c.take_course-read.new.course.before c.args.deep less root all (omega arith) refl
    (subst (λ b. IsRead old new after (steps_met files root (met_within less files) zero all (state_in b old))) none
    (subst (λ (r : Kept). IsRead old new after (steps_met files (root_view r) (met_within less files) zero (steps_of (root_view r).directives outermost (root_view r).nodes) (state_in course.before old))) of_root is)))

pub take_start-returns-in-Some : goal.take_start-returns-in-Some
take_start-returns-in-Some t c =
    let old = c.args.found.now in
    let mid = c.meet_start.new.found in
    let new = c.read_root-read.new.found in
    let before = c.args.course.now.before in
    let root = root_view c.args.course.now.root in
    let kind = kind_made c.args.beginning.now.kind.now in
    let here = here_made c.args.beginning.now.here in
    let opened = opened_of c.args.beginning.now.element.now.head in
    let body = flat (in_place c.args.beginning.now.element.now.body.items) in
    let file : Called = file_met (text_in old.site) kind opened.tag (nested here (state_in before old)) in
    let tag : c.root.result.now ≡ c.in-Some.tag.value = search rules in
    let started = subst (λ o. IsStarted old mid root kind here opened body before (option_map (λ tag. root_view tag.value) o) file) c.in-Some.is c.in_ok-tag.ensures in
    on_ok c.read_root-read.result c.read_root-read.ensures
    (λ is. started_entered c.args.deep started
    (subst (λ (r : Kept). IsRead mid new (state_in before new) (met_within c.args.deep (text_in mid.site) (root_view r) (state_in before mid))) tag (is before)))
