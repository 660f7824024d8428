use Rattle.std.proofs.Common.{◌≡◌, List, ℕ, IfOk, ap, filter, map, not, subst, sym, ◌∙◌}
use Rattle.std.specs.Str.{bytes_eq}
use Rattle.pg_value.specs.Attrs.{AreInOrder, without_entry}
use Rattle.pg_value.specs.Datum.{Datum}
use Rattle.pg_value.specs.Value.{entry_of}
use Rattle.pg_value.specs.declared.value.Value.{Value}
use Rattle.pg_value.proofs.Order.{AreInOrder-without_entry, without_entry-entry_of}
use Rattle.pg_value.proofs.block.Block.without.Goals as goal

seen_without : (es copied rest : List (List ℕ × Value)) (b : List (List ℕ × Datum)) (k : List ℕ) → map entry_of es ≡ b → copied ≡ es → rest ≡ filter (λ e. not (bytes_eq k e.0)) copied → map entry_of rest ≡ without_entry b k
seen_without es copied rest b k seen same is = ap (map entry_of) is ∙ without_entry-entry_of copied k ∙ ap (λ fs. without_entry fs k) (ap (map entry_of) same ∙ seen)

pub new-requires : goal.new-requires
new-requires c =
    subst AreInOrder (sym (seen_without _ _ _ _ c.args.key.now c.as_slice.ensures.entries c.in_ok-entries.ensures c.take_out.ensures)) (AreInOrder-without_entry c.args.self.now c.args.key.now c.as_slice.ensures.order)

pub returns : goal.returns
returns c =
    subst (λ es. IfOk c.new.result (λ made. made ≡ es)) (seen_without _ _ _ _ c.args.key.now c.as_slice.ensures.entries c.in_ok-entries.ensures c.take_out.ensures) c.new.ensures
