use Rattle.std.proofs.Common.{◌∙◌, ap, refl}
use Rattle.act_reader.specs.Before.{acts_before}
use Rattle.act_reader.proofs.BeforeLemmas.{acts_push}
use Rattle.act_reader.proofs.ContentLemmas.{children_is, content_is}
use Rattle.act_reader.proofs.contents.Children.add_act.Goals as goal

pub returns : goal.returns
returns c =
    λ rest. children_is _ _ _ _ _ _ (content_is _ _ _ _ _ _ (ap (λ made. acts_before made rest.own.nodes) c.in_ok-push.ensures.items ∙ acts_push c.args.self.now.own.acts.items c.args.act rest.own.nodes) refl refl) refl refl
