use Rattle.std.proofs.Common.{[], ◌∙◌}
use Rattle.std.proofs.lemmas.List.{get_or-map, map-set}
use Rattle.context_workers.proofs.taking.take_last.Goals as goal

pub returns : goal.returns
returns g c = record {
  less = c.pop.new.self.items;
  was = get_or-map (λ list. list.items) c.args.lists.now c.args.place c.index-lists-place.result [] c.requires.within ∙ c.in-Some.ensures.items;
  now = map-set (λ list. list.items) c.args.lists.now c.args.place c.pop.new.self;
}
