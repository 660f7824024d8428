use Rattle.compiled_pages.specs.Pages.{needs_at}
use Rattle.pass_course.proofs.CourseLemmas.{done_acts}
use Rattle.request_port.proofs.finding.make.Goals as goal
use Rattle.site_words.specs.declared.words.Op.TheVariants as op
use Rattle.site_words.specs.declared.words.Reply.TheVariants as reply

pub translated-requires : goal.translated-requires
translated-requires g c = let u = c.requires.under in record { limits = u.1.limits; file = c.requires.file }

pub returns-in-Ok-offer-clause-offers : goal.returns-in-Ok-offer-clause-offers
returns-in-Ok-offer-clause-offers g c =
    let port = c.args.port.now in (
      c.in-Ok-offer.field-0,
      done_acts needs_at (g.Q.Port.opening port) (g.Q.Port.pass port) (g.Q.Port.seen port) _ (op.Offer c.args.request c.args.path.now) (reply.Offered c.in-Ok-offer.field-0) c.in-Ok-offer.ensures.call,
      c.in-Ok.ensures.read,
    )
