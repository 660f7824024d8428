use Rattle.std.proofs.Common.{◌≡◌, Some, subst}
use Rattle.std.specs.Prelude.{slice_get}
use Rattle.tree_site.proofs.Answered.{given_so}
use Rattle.tree_site.specs.Prepared.{session_of}
use Rattle.tree_site.proofs.site.TreeSiteAppPortProgram.fresh.Goals as goal

pub returns-clause-given : goal.returns-clause-given
returns-clause-given c =
    let at : slice_get c.args.self.now.answers.items c.args.self.now.used ≡ Some (session_of c.in_ok-fresh.fresh) =
    subst (λ answers. slice_get answers c.args.self.now.used ≡ Some (session_of c.in_ok-fresh.fresh)) c.deref.ensures.value c.in_ok-fresh.ensures in
    rw c.in_ok-push.ensures.items
    (given_so c.args.self.now.asked.items c.args.self.now.answers.items c.args.self.now.used c.args.self.now.has_session c.in_ok-fresh.fresh at c.requires.room)
