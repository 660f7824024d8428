use Rattle.std.proofs.Common.{◌≡◌, ◌∙◌, ap, refl, List, [], ◌∷◌, Option, Some, None, Bool, true, false, Bor, ℕ, rules, tests}
use Rattle.std.specs.List.{find}
use Rattle.std.specs.Option.{option_copied}
use Rattle.std.specs.Prelude.{cond, map, option_map}
use Rattle.std.specs.Str.{bytes_eq}
use Rattle.std.proofs.lemmas.Iterator.{YieldsList-from_slice}
use Rattle.std.proofs.lemmas.Iterator.Search.{find_from_yields_List}
use Rattle.page_machine.proofs.calls.tag_at.Goals as goal
use Rattle.page_table.specs.Program.{tag_at}
use Rattle.run_world.specs.Tags.{tag_of}
use Rattle.run_world.specs.declared.program.TagProgram.{TagProgram}

-- the first of these tag files that has the path
abbrev first_at : List ℕ → List TagProgram → Option TagProgram
first_at path tags = find (λ tag. bytes_eq path tag.path) tags

seen_at : (path : List ℕ) (tags : List TagProgram) → option_map tag_of (first_at path tags) ≡ tag_at path (map tag_of tags)
seen_at path [] = refl
seen_at path (t ∷ rest) = go (bytes_eq path t.path) (seen_at path rest)
  where
    go : (b : Bool) → option_map tag_of (first_at path rest) ≡ tag_at path (map tag_of rest) → option_map tag_of (cond b (Some t) (first_at path rest)) ≡ cond b (Some (tag_of t)) (tag_at path (map tag_of rest))
    go true others = refl
    go false others = others

behind : (r : Option (Bor TagProgram)) → option_map (λ tag. tag_of tag.now) r ≡ option_map tag_of (option_copied r)
behind None = refl
behind (Some tag) = refl

pub returns : goal.returns
returns c =
    behind c.find.result
    ∙ ap (option_map tag_of)
    (find_from_yields_List (λ tag. bytes_eq c.args.path.now tag.path) _ _ c.find.result c.find.ensures.ran (YieldsList-from_slice c.args.program.now.tags (c.iter.ensures.rest ∙ c.as_slice.ensures)) (λ x b q k. search (rules, tests)))
    ∙ seen_at c.args.path.now c.args.program.now.tags
