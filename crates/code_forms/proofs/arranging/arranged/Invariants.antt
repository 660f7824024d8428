use Rattle.std.proofs.Common.{◌≡◌, ◌++◌, map, drop}
use Rattle.code_forms.specs.Codes.{arranged_code}
use Rattle.code_forms.proofs.arranging.arranged.Given as goal

abbrev pub invariant-loop-done : goal.invariant-loop-done
invariant-loop-done l =
    l.code ++ arranged_code l.ground l.place (drop l.done (map (λ name. name.now) l.wanted)) l.left.items l.done ≡ arranged_code l.ground l.place (map (λ name. name.now) l.wanted) l.names 0
