-- Entries with values, and the same entries with their data.
use Rattle.std.proofs.Common.{◌≡◌, ℕ, Bool, List, [], ◌∷◌, map, refl, sym, ap, ◌∙◌}
use Rattle.std.specs.Bool.{Decides}
use Rattle.pg_value.proofs.Inverses.{one_value}
use Rattle.pg_value.specs.Datum.{Datum}
use Rattle.pg_value.specs.Value.{entry_of}
use Rattle.pg_value.specs.declared.value.Value.{Value}

one_entry : (x y : List ℕ × Value) → entry_of x ≡ entry_of y → x ≡ y
one_entry x y same =
    let keys : x.0 ≡ y.0 = ap (λ (e : List ℕ × Datum). e.0) same in
    let values : x.1 ≡ y.1 = one_value x.1 y.1 (ap (λ (e : List ℕ × Datum). e.1) same) in
    ap (λ k. let e : List ℕ × Value = (k, x.1) in e) keys ∙ ap (λ v. let e : List ℕ × Value = (y.0, v) in e) values

-- entries are equal where their data are
one_list : (xs ys : List (List ℕ × Value)) → map entry_of xs ≡ map entry_of ys → xs ≡ ys
one_list [] [] same = refl
one_list [] (y ∷ ys) same = absurd (cc)
one_list (x ∷ xs) [] same = absurd (cc)
one_list (x ∷ xs) (y ∷ ys) same =
    let head : entry_of x ≡ entry_of y = cc in
    let tail : map entry_of xs ≡ map entry_of ys = cc in
    ap (λ e. e ∷ xs) (one_entry x y head) ∙ ap (λ es. y ∷ es) (one_list xs ys tail)

pub attrs_decide : (r : Bool) (xs ys : List (List ℕ × Value)) (a b : List (List ℕ × Datum)) → map entry_of xs ≡ a → map entry_of ys ≡ b → Decides r (xs ≡ ys) → Decides r (a ≡ b)
attrs_decide r xs ys a b one other decides = (λ is. sym one ∙ ap (map entry_of) (decides.0 is) ∙ other, λ same. decides.1 (one_list xs ys (one ∙ same ∙ sym other)))
