use Rattle.std.proofs.Common.{length, refl}
use Rattle.std.proofs.lemmas.Option.{slice_get_read}
use Rattle.contexts.proofs.sites.Contexts.site.Goals as goal

pub returns : goal.returns
returns g c = slice_get_read c.args.self.now.sites.items (length c.args.self.now.sites.items) c.args.context c.index.result.now refl c.requires.there c.index.ensures
