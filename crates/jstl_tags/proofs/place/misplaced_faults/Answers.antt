use Rattle.std.proofs.Common.{[], ◌∷◌}
use Rattle.std.specs.Prelude.{map}
use Rattle.pg_text.specs.declared.translation_fault.TranslationFault.TheVariants as fault
use Rattle.jstl_tags.specs.Check.{child_faults}
use Rattle.jstl_tags.specs.Hosts.{host_made}
use Rattle.jstl_tags.proofs.place.misplaced_faults.Goals as goal

pub returns : goal.returns
returns c = c.and.ensures.of (fault.BadNesting ∷ []) (child_faults (map host_made c.args.around.now)) c.one.ensures c.child_faults.ensures
