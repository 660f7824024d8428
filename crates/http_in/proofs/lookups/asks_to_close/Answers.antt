use Rattle.std.proofs.Common.{◌∙◌, ◌&&◌, rules, tests}
use Rattle.std.specs.Prelude.{codes}
use Rattle.std.proofs.lemmas.Iterator.{YieldsList-from_slice}
use Rattle.std.proofs.lemmas.Iterator.Search.{any_from_yields_List}
use Rattle.http_in.specs.Fields.{has_close}
use Rattle.http_in.proofs.FieldLemmas.{has_name, list_any-values}
use Rattle.http_in.proofs.lookups.asks_to_close.Goals as goal

pub returns : goal.returns
returns c =
    any_from_yields_List (λ field. has_name (codes "connection") field && has_close field.value) _ _ _ c.any.ensures.ran
    (YieldsList-from_slice c.args.fields.now cc)
    (λ x b q k. search (rules, tests))
    ∙ list_any-values has_close (codes "connection") c.args.fields.now
