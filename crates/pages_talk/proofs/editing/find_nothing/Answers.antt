use Rattle.std.proofs.Common.{codes, refl}
use Rattle.conversation.proofs.ServedLemmas.{told_served}
use Rattle.conversation.specs.Exchange.{Exchange}
use Rattle.http_out.specs.Methods.{shows_body}
use Rattle.http_out.specs.Response.{plain}
use Rattle.http_out.specs.declared.status.Status.TheVariants as status
use Rattle.talk_words.specs.Said.{Leaves, Says}
use Rattle.talk_words.specs.declared.way.Way.TheVariants.{Nowhere}
use Rattle.pages_talk.proofs.editing.find_nothing.Goals as goal

pub returns-clause-served : goal.returns-clause-served
returns-clause-served g c = λ w at.
    told_served (λ close old (e : Exchange) new. Says w Nowhere e.request close old e.text e.broken new) (λ close old request text new. Leaves w Nowhere request close old text new)
    c.args.close c.args.request.now at at (plain status.NotFound c.args.close (codes "NotFound") (shows_body c.args.request.now.method))
    (g.K.Sink.faults c.args.sink.now) (g.K.Sink.faults c.tell.new.sink) (g.K.Sink.taken c.args.sink.now) (g.K.Sink.taken c.tell.new.sink) c.tell.result
    (record { same = refl; text_is = refl; broken_is = refl }) (refl, refl) c.tell.ensures.told
