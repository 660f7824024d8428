use Rattle.std.proofs.Common.{subst}
use Rattle.tree_site.proofs.Answered.{told_so}
use Rattle.tree_site.specs.Prepared.{ReplyAt}
use Rattle.tree_site.proofs.site.TreeSiteAppPortProgram.app.Goals as goal

pub returns-clause-told : goal.returns-clause-told
returns-clause-told c =
    let at : ReplyAt c.args.self.now.answers.items c.args.self.now.used c.args.step c.in_ok-reply.reply =
    subst (λ answers. ReplyAt answers c.args.self.now.used c.args.step c.in_ok-reply.reply) c.deref.ensures.value c.in_ok-reply.ensures in
    rw c.in_ok-push.ensures.items
    (told_so c.args.self.now.asked.items c.args.self.now.answers.items c.args.self.now.used c.args.self.now.has_session c.args.step c.in_ok-reply.reply at c.requires.room)
