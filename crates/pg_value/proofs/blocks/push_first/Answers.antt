use Rattle.std.proofs.Common.{[], ◌∷◌, ◌++◌, ap, map, subst, sym, ◌∙◌}
use Rattle.pg_value.specs.Attrs.{AreInOrder}
use Rattle.pg_value.specs.ReadEntries.{AreBlocks}
use Rattle.pg_value.specs.Value.{datum_of, entry_of}
use Rattle.pg_value.proofs.BlockPlaces.{no_blocks, one_block, one_in_order}
use Rattle.pg_value.proofs.blocks.push_first.Goals as goal

pub returns-in_err-push-clause-kept : goal.returns-in_err-push-clause-kept
returns-in_err-push-clause-kept c = no_blocks _ c.requires

pub returns-in_err-new-clause-kept : goal.returns-in_err-new-clause-kept
returns-in_err-new-clause-kept c = no_blocks _ c.requires

pub returns-in_err-push-2-clause-kept : goal.returns-in_err-push-2-clause-kept
returns-in_err-push-2-clause-kept c = no_blocks _ (c.in_err-push-2.ensures.items ∙ c.requires)

pub new-requires : goal.new-requires
new-requires c =
    subst (λ es. AreInOrder (map entry_of es)) (sym (c.in_ok-push.ensures.items ∙ ap (λ es. es ++ (c.args.key, c.args.value) ∷ []) c.new-entries.ensures.items))
    (one_in_order (c.args.key, datum_of c.args.value))

pub returns-clause-kept : goal.returns-clause-kept
returns-clause-kept c =
    let alone = c.in_ok-push.ensures.items ∙ ap (λ es. es ++ (c.args.key, c.args.value) ∷ []) c.new-entries.ensures.items in
    subst AreBlocks (sym (c.in_ok-push-2.ensures.items ∙ ap (λ bs. bs ++ c.in_ok-new.field-0 ∷ []) c.requires ∙ ap (λ b. b ∷ []) (c.in_ok-new.ensures ∙ ap (map entry_of) alone)))
    (one_block (c.args.key, datum_of c.args.value))
