use Rattle.std.proofs.Common.{◌≡◌, drop, map}
use Rattle.std.specs.List.{find}
use Rattle.std.specs.Str.{bytes_eq}
use Rattle.unit_source.specs.Placed.{root_view}
use Rattle.unit_build.proofs.found.tag_in.Given as goal

abbrev pub invariant-loop-tag : goal.invariant-loop-tag
invariant-loop-tag l =
    find (λ root. bytes_eq root.path l.path) (map (λ tag. root_view tag.value) (drop l.tag-index l.tags)) ≡ find (λ root. bytes_eq root.path l.path) (map (λ tag. root_view tag.value) l.tags)
