use Rattle.std.proofs.Common.{◌∙◌, ap, refl}
use Rattle.act_reader.specs.Before.{branches_before}
use Rattle.act_reader.proofs.BeforeLemmas.{branches_push}
use Rattle.act_reader.proofs.ContentLemmas.{children_is, content_is}
use Rattle.act_reader.proofs.contents.Children.add_branch.Goals as goal

pub returns : goal.returns
returns c =
    λ rest. children_is _ _ _ _ _ _ (content_is _ _ _ _ _ _ refl refl (ap (λ made. branches_before made rest.own.branches) c.in_ok-push.ensures.items ∙ branches_push c.args.self.now.own.branches.items c.args.branch rest.own.branches)) refl refl
