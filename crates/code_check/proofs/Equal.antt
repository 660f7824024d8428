-- The tests of numbers, levels and lists of levels decide that they are equal; and how a test is joined with another.
use Rattle.std.proofs.Common.{◌≡◌, ℕ, ◌≤◌, List, Bool, true, false, ◌&&◌, nat_le, nat_eq, refl, sym, ap, ◌∙◌}
use Rattle.std.specs.Bool.{Decides}
use Rattle.std.specs.Cmp.Lexicographic.{pointwise_decides}
use Rattle.std.proofs.lemmas.Bool.{true≢false, leb-true, le-leb}
use Rattle.std.proofs.lemmas.Bool.Decides.{Decides-and, Decides-like, Decides-eqb}
use Rattle.page_code.specs.declared.shape.Level.{Level}
use Rattle.page_code.specs.declared.shape.Shape.{Shape}
use Rattle.code_check.specs.ReadChecks.{same_level, same_levels, level, is_shape}

pub yes : {P : Type 0} → P → Decides true P
yes p = (λ _. p, λ _. refl)

pub no : {P : Type 0} → (P → ⊥) → Decides false P
no n = (λ t. absurd (true≢false (sym t)), λ p. absurd (n p))

pub both : {P Q R : Type 0} (a b : Bool) → Decides a P → Decides b Q → (P → Q → R) → (R → P) → (R → Q) → Decides (a && b) R
both a b p q f g h = Decides-like (a && b) (λ x. f x.0 x.1) (λ r. (g r, h r)) (Decides-and a b p q)

pub le_decides : (a b : ℕ) → Decides (nat_le a b) (a ≤ b)
le_decides a b = (leb-true a b, le-leb a b)

pub level_is : (c : Level) (v b l : ℕ) → c.values ≡ v → c.bodies ≡ b → c.loops ≡ l → c ≡ level v b l
level_is c v b l e f g = ap (λ x. level x c.bodies c.loops) e ∙ ap (λ x. level v x c.loops) f ∙ ap (λ x. level v b x) g

pub level_decides : (c : Level) (v b l : ℕ) → Decides (same_level c (level v b l)) (c ≡ level v b l)
level_decides c v b l =
    both (nat_eq c.values v) (nat_eq c.bodies b && nat_eq c.loops l) (Decides-eqb c.values v)
    (Decides-and (nat_eq c.bodies b) (nat_eq c.loops l) (Decides-eqb c.bodies b) (Decides-eqb c.loops l))
    (λ e h. level_is c v b l e h.0 h.1) (λ e. ap (λ x. x.values) e) (λ e. (ap (λ x. x.bodies) e, ap (λ x. x.loops) e))

pub levels_decide : (cs ds : List Level) → Decides (same_levels cs ds) (cs ≡ ds)
levels_decide = pointwise_decides (λ c d. level_decides c d.values d.bodies d.loops)

abbrev shape : ℕ → ℕ → ℕ → List Level → Shape
shape v b l cs = record { values = v; bodies = b; loops = l; catches = cs }

pub shape_is : (sh : Shape) (v b l : ℕ) (cs : List Level) → sh.values ≡ v → sh.bodies ≡ b → sh.loops ≡ l → sh.catches ≡ cs → sh ≡ record { values = v; bodies = b; loops = l; catches = cs }
shape_is sh v b l cs e f g h =
    ap (λ x. shape x sh.bodies sh.loops sh.catches) e ∙ ap (λ x. shape v x sh.loops sh.catches) f ∙ ap (λ x. shape v b x sh.catches) g ∙ ap (λ x. shape v b l x) h

pub shape_decides : (sh : Shape) (v b l : ℕ) (cs : List Level) → Decides (is_shape sh v b l cs) (sh ≡ record { values = v; bodies = b; loops = l; catches = cs })
shape_decides sh v b l cs =
    both (nat_eq sh.values v) (nat_eq sh.bodies b && (nat_eq sh.loops l && same_levels sh.catches cs)) (Decides-eqb sh.values v)
    (Decides-and (nat_eq sh.bodies b) (nat_eq sh.loops l && same_levels sh.catches cs) (Decides-eqb sh.bodies b)
    (Decides-and (nat_eq sh.loops l) (same_levels sh.catches cs) (Decides-eqb sh.loops l) (levels_decide sh.catches cs)))
    (λ e h. shape_is sh v b l cs e h.0 h.1.0 h.1.1) (λ e. ap (λ x. x.values) e) (λ e. (ap (λ x. x.bodies) e, (ap (λ x. x.loops) e, ap (λ x. x.catches) e)))
