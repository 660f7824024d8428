-- The equality of levels decides that they are the same.
use Rattle.std.proofs.Common.{◌≡◌, ℕ, List, ◌&&◌, nat_eq, ap, ◌∙◌}
use Rattle.std.specs.Bool.{Decides}
use Rattle.std.specs.Cmp.Lexicographic.{pointwise, pointwise_decides}
use Rattle.std.proofs.lemmas.Bool.Decides.{Decides-and, Decides-like, Decides-eqb}
use Rattle.page_code.specs.declared.shape.Level.{Level}

abbrev level : ℕ → ℕ → ℕ → Level
level v b l = record { values = v; bodies = b; loops = l }

level_is : (c d : Level) → c.values ≡ d.values → c.bodies ≡ d.bodies → c.loops ≡ d.loops → c ≡ d
level_is c d e f g = ap (λ x. level x c.bodies c.loops) e ∙ ap (λ x. level d.values x c.loops) f ∙ ap (λ x. level d.values d.bodies x) g

level_decides : (c d : Level) → Decides (nat_eq c.values d.values && (nat_eq c.bodies d.bodies && nat_eq c.loops d.loops)) (c ≡ d)
level_decides c d =
    Decides-like (nat_eq c.values d.values && (nat_eq c.bodies d.bodies && nat_eq c.loops d.loops))
    (λ h. level_is c d h.0 h.1.0 h.1.1) (λ e. (ap (λ x. x.values) e, (ap (λ x. x.bodies) e, ap (λ x. x.loops) e)))
    (Decides-and (nat_eq c.values d.values) (nat_eq c.bodies d.bodies && nat_eq c.loops d.loops) (Decides-eqb c.values d.values)
    (Decides-and (nat_eq c.bodies d.bodies) (nat_eq c.loops d.loops) (Decides-eqb c.bodies d.bodies) (Decides-eqb c.loops d.loops)))

pub levels_decide : (cs ds : List Level) → Decides (pointwise (λ c d. nat_eq c.values d.values && (nat_eq c.bodies d.bodies && nat_eq c.loops d.loops)) cs ds) (cs ≡ ds)
levels_decide = pointwise_decides level_decides
