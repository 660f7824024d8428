use Rattle.std.proofs.Common.{Bor, List, ℕ, Option, sym, ap, ◌∙◌}
use Rattle.std.specs.Prelude.{◌||◌}
use Rattle.std.specs.Option.{option_map}
use Rattle.page_directives.specs.Settings.{is_value}
use Rattle.tag_decl.proofs.NameLemmas.{name_inserted}
use Rattle.tag_decl.proofs.declared_before.insert_name.Goals as goal

pub returns-in_ok-insert : goal.returns-in_ok-insert
returns-in_ok-insert c has is other =
    name_inserted c.args.names.now c.insert.new.self c.in-Some.name has c.in_ok-insert.ensures.updates is other
    ∙ ap (λ (name : Option (Bor (List ℕ))). has other.now || is_value other.now (option_map (λ name. name.now) name)) (sym c.in-Some.is)
