use Rattle.std.proofs.Common.{sym, ◌∙◌, rules}
use Rattle.pg_value.proofs.Halving.{found_at, missing_at, within}
use Rattle.pg_value.proofs.attrs.find.Goals as goal

pub offset_bounds-entries-at : goal.offset_bounds-entries-at
offset_bounds-entries-at c = search (rules, within c.args.key.now c.args.entries.now c.in-Ok.at (sym c.place.ensures ∙ c.in-Ok.is))

pub bounds-entries-at : goal.bounds-entries-at
bounds-entries-at c = within c.args.key.now c.args.entries.now c.in-Ok.at (sym c.place.ensures ∙ c.in-Ok.is)

pub returns-in-Ok : goal.returns-in-Ok
returns-in-Ok c = sym (found_at c.args.key.now c.args.entries.now c.in-Ok.at _ (sym c.place.ensures ∙ c.in-Ok.is))

pub returns-in-Err : goal.returns-in-Err
returns-in-Err c = sym (missing_at c.args.key.now c.args.entries.now _ c.requires (sym c.place.ensures ∙ c.in-Err.is))
