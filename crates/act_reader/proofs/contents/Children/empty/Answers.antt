use Rattle.std.proofs.Common.{ap, refl}
use Rattle.act_reader.specs.Before.{attributes_before}
use Rattle.act_reader.proofs.ContentLemmas.{children_is}
use Rattle.act_reader.proofs.contents.Children.empty.Goals as goal

pub returns : goal.returns
returns c =
    λ rest. children_is _ _ _ _ _ _ (c.empty.ensures.before rest.own) (ap (λ made. attributes_before made rest.given) c.new.ensures.items) refl
