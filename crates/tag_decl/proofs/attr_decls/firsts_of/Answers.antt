use Rattle.std.proofs.Common.{◌≡◌, ◌<◌, ◌-◌, ◌∙◌, suc, length, drop, refl, ap, arith}
use Rattle.tag_decl.specs.ReadFirsts.{first_named}
use Rattle.tag_decl.proofs.FirstLemmas.{firsts_none, firsts_more}
use Rattle.tag_decl.proofs.attr_decls.firsts_of.Goals as goal

pub loop-at-init : goal.loop-at-init
loop-at-init c = record { within = omega arith; has = firsts_none c.new-firsts.result (length c.args.decls.now) c.args.decls.now refl c.new-firsts.ensures.empty }

pub loop-at-preserved : goal.loop-at-preserved
loop-at-preserved c =
    let at = c.loop-at.at - 1 in
    let decls = c.args.decls.now in
    let within : at < length decls = omega (arith, c.loop-at.invariant.within, c.loop-at-test.true) in
    let next : c.loop-at.at ≡ suc at = omega (arith, c.loop-at-test.true) in
    record {
      within = omega arith;
      has = firsts_more c.loop-at.firsts c.insert.new.self c.in_ok-from_str.field-0 at c.loop-at.at c.index-decls-at.result decls within c.index-decls-at.is next
          (c.in_ok-from_str.ensures.ok ∙ c.as_str.ensures) c.in_ok-insert.ensures.updates c.loop-at.invariant.has;
    }

pub returns : goal.returns
returns c name =
    let end : c.loop-at.at ≡ 0 = omega (arith, c.loop-at-test.false) in
    c.loop-at.invariant.has name ∙ ap (λ at. first_named name (drop at c.args.decls.now)) end
