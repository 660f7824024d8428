use Rattle.std.proofs.Common.{◌∙◌}
use Rattle.pg_value.proofs.Gathered.{of_entries-stable}
use Rattle.pg_value.proofs.attrs.Attrs.from_entries.Goals as goal

pub returns : goal.returns
returns c = c.new.ensures ∙ c.in_ok-gathered.ensures.value ∙ of_entries-stable _ _ c.in_ok-sorted.ensures
