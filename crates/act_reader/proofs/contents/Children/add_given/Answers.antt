use Rattle.std.proofs.Common.{◌∙◌, ap, refl}
use Rattle.act_reader.specs.Before.{attributes_before}
use Rattle.act_reader.proofs.BeforeLemmas.{attributes_push}
use Rattle.act_reader.proofs.ContentLemmas.{children_is}
use Rattle.act_reader.proofs.contents.Children.add_given.Goals as goal

pub returns : goal.returns
returns c =
    λ rest. children_is _ _ _ _ _ _ refl (ap (λ made. attributes_before made rest.given) c.in_ok-push.ensures.items ∙ attributes_push c.args.self.now.given.items c.args.attribute rest.given) refl
