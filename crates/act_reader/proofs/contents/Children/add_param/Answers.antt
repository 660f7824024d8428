use Rattle.std.proofs.Common.{◌∙◌, ap, refl}
use Rattle.act_reader.specs.Before.{params_before}
use Rattle.act_reader.proofs.BeforeLemmas.{params_push}
use Rattle.act_reader.proofs.ContentLemmas.{children_is, content_is}
use Rattle.act_reader.proofs.contents.Children.add_param.Goals as goal

pub returns : goal.returns
returns c =
    λ rest. children_is _ _ _ _ _ _ (content_is _ _ _ _ _ _ refl (ap (λ made. params_before made rest.own.params) c.in_ok-push.ensures.items ∙ params_push c.args.self.now.own.params.items c.args.param rest.own.params) refl) refl refl
