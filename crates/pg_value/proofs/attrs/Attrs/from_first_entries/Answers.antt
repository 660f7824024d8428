use Rattle.std.proofs.Common.{◌≡◌, IfOk, map, ap, ◌∙◌, subst}
use Rattle.pg_value.specs.Attrs.{of_entries}
use Rattle.pg_value.specs.Value.{entry_of}
use Rattle.pg_value.proofs.Gathered.{entries-reverse}
use Rattle.pg_value.proofs.attrs.Attrs.from_first_entries.Goals as goal

pub returns : goal.returns
returns c =
    subst (λ es. IfOk c.from_entries.result (λ made. made ≡ of_entries es)) (ap (map entry_of) c.reversed.ensures ∙ entries-reverse c.args.entries.items) c.from_entries.ensures
