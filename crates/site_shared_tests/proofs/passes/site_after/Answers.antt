use Rattle.std.proofs.Common.{◌∙◌}
use Rattle.site_shared_tests.proofs.ReadyLemmas.{all_in_place, newcomers_in_place, newcomers_len}
use Rattle.site_shared_tests.proofs.passes.site_after.Goals as goal

pub all_after-requires-clause-places : goal.all_after-requires-clause-places
all_after-requires-clause-places g c κs lasting = newcomers_in_place c.in_ok-shared.shared c.args.site.history c.in_ok-shared.passes.items c.in_ok-shared.ensures.passes

pub close-requires : goal.close-requires
close-requires g c =
    all_in_place c.in_ok-shared.shared c.in_ok-passes.passes.items (c.in_ok-passes.ensures.len ∙ newcomers_len c.in_ok-shared.shared c.args.site.history c.in_ok-shared.passes.items c.in_ok-shared.ensures.passes)
    c.in_ok-passes.ensures.ready c.in_ok-passes.ensures.places
