use Rattle.std.proofs.Common.{◌≡◌, codes, rules, subst}
use Rattle.std.specs.Option.{option_map}
use Rattle.page_pieces.specs.Settings.{value_of}
use Rattle.unit_source.specs.Files.{text_in}
use Rattle.unit_words.specs.Beans.{bean_met}
use Rattle.unit_build.specs.ReadFound.{IsBeanMet, state_in}
use Rattle.unit_build.proofs.CalledLemmas.{called_bean}
use Rattle.unit_build.proofs.start.meet_bean.Goals as goal

pub returns : goal.returns
returns c before =
    let old = c.args.found.now in
    let class : option_map (λ class. class.now) c.plain.result ≡ value_of (codes "class") c.args.head.now.attributes = search rules in
    called_bean before (subst (λ o. IsBeanMet old c.meet_bean.new.self before c.in_ok-faults.faults (bean_met (text_in old.site) o (state_in before old))) class (c.in_ok-faults.ensures before))
