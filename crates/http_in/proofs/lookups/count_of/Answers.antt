use Rattle.std.proofs.Common.{◌∙◌, rules, tests}
use Rattle.std.proofs.lemmas.Iterator.{YieldsList-from_slice}
use Rattle.std.proofs.lemmas.Iterator.Consumers.{YieldsList-from_filter, count_from_yields_List}
use Rattle.http_in.proofs.FieldLemmas.{has_name, length-values}
use Rattle.http_in.proofs.lookups.count_of.Goals as goal

pub returns : goal.returns
returns c =
    count_from_yields_List c.filter.result _ c.count.ensures.ran
    (YieldsList-from_filter _ (has_name c.args.name.now) (YieldsList-from_slice c.args.fields.now cc) c.filter.ensures.closure (λ x b q k. search (rules, tests)))
    ∙ length-values c.args.name.now c.args.fields.now
