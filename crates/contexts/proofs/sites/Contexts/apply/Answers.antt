use Rattle.std.proofs.Common.{length, refl}
use Rattle.std.proofs.lemmas.Option.{slice_get_read}
use Rattle.contexts.proofs.sites.Contexts.apply.Goals as goal

pub apply-requires-clause-may : goal.apply-requires-clause-may
apply-requires-clause-may g c =
    c.requires.may c.index_mut.result.now
    (slice_get_read c.args.self.now.sites.items (length c.args.self.now.sites.items) c.args.context c.index_mut.result.now refl c.requires.there c.index_mut.ensures.value)

pub apply-requires-clause-made : goal.apply-requires-clause-made
apply-requires-clause-made g c =
    c.requires.made c.index_mut.result.now
    (slice_get_read c.args.self.now.sites.items (length c.args.self.now.sites.items) c.args.context c.index_mut.result.now refl c.requires.there c.index_mut.ensures.value)

pub returns : goal.returns
returns g c = record {
  applies = record {
    before = c.index_mut.result.now;
    before_is = slice_get_read c.args.self.now.sites.items (length c.args.self.now.sites.items) c.args.context c.index_mut.result.now refl c.requires.there c.index_mut.ensures.value;
    after = c.apply.new.self;
    applies = c.apply.ensures.applies;
    sites_are = refl;
  };
}
