-- Lists of connections, one after the other.
use Rattle.std.proofs.Common.{◌≡◌, ◌≢◌, ℕ, List, [], ◌∷◌, ◌++◌, Option, Some, None, length, option_map, refl, sym, ap, subst, ◌∙◌, arith}
use Rattle.connection_list.specs.List.{BeginsWith, first_connection}

-- an input begins with one connection more
pub begins_next : (input : List ℕ) (connections : List (List ℕ)) (rest bytes next : List ℕ) → BeginsWith input connections rest → first_connection rest ≡ Some (bytes, next) → BeginsWith input (connections ++ bytes ∷ []) next
begins_next input [] rest bytes next begins first = (next, subst (λ r. first_connection r ≡ Some (bytes, next)) begins first, refl)
begins_next input (one ∷ connections) rest bytes next begins first = (begins.0, begins.1, begins_next begins.0 connections rest bytes next begins.2 first)

-- what is behind the first connection
abbrev rest_of : Option (List ℕ × List ℕ) → List ℕ
rest_of None = []
rest_of (Some split) = split.1

rests_same : (a b s t : List ℕ) → ◌≡◌ {A = Option (List ℕ × List ℕ)} (Some (a, s)) (Some (b, t)) → s ≡ t
rests_same a b s t same = ap rest_of same

not_both : {A : Type 0} (o : Option A) (x : A) → o ≡ None → o ≡ Some x → ⊥
not_both o x none some = absurd (cc)

not_empty : (b : ℕ) (rest : List ℕ) → b ∷ rest ≡ [] → ⊥
not_empty b rest same = absurd (cc)

-- where no connection stands next but something does, the input is no list
pub unlisted : (input : List ℕ) (front : List (List ℕ)) (b : ℕ) (rest : List ℕ) → BeginsWith input front (b ∷ rest) → first_connection (b ∷ rest) ≡ None → (connections : List (List ℕ)) → BeginsWith input connections [] → ⊥
unlisted input [] b rest begins none [] listed = not_empty b rest (begins ∙ sym listed)
unlisted input [] b rest begins none (bytes ∷ connections) listed = not_both (first_connection (b ∷ rest)) (bytes, listed.0) none (ap first_connection begins ∙ listed.1)
unlisted input (one ∷ front) b rest begins none [] listed = not_both (first_connection input) (one, begins.0) (ap first_connection (sym listed)) begins.1
unlisted input (one ∷ front) b rest begins none (bytes ∷ connections) listed =
    let same : begins.0 ≡ listed.0 = rests_same one bytes begins.0 listed.0 (sym begins.1 ∙ listed.1) in
    unlisted begins.0 front b rest begins.2 none connections (subst (λ next. BeginsWith next connections []) (sym same) listed.2)

-- so behind the last connection of a list is nothing
pub last_behind : (input : List ℕ) (front : List (List ℕ)) (rest : List ℕ) → BeginsWith input front rest → first_connection rest ≡ None → (connections : List (List ℕ)) × BeginsWith input connections [] → rest ≡ []
last_behind input front [] begins none listed = refl
last_behind input front (b ∷ rest) begins none listed = absurd (unlisted input front b rest begins none listed.0 listed.1)

-- what an answer that is there stands for
pub first_is : {A B : Type 0} (f : A → B) (r : Option A) (x : A) (y : Option B) → option_map f r ≡ y → r ≡ Some x → y ≡ Some (f x)
first_is f r x y e is = sym e ∙ ap (option_map f) is

pub none_is : {A B : Type 0} (f : A → B) (r : Option A) (y : Option B) → option_map f r ≡ y → r ≡ None → y ≡ None
none_is f r y e is = sym e ∙ ap (option_map f) is

-- where nothing is behind the first connections the input is their list
pub is_whole : (input : List ℕ) (front : List (List ℕ)) (rest : List ℕ) → BeginsWith input front rest → length rest ≡ 0 → BeginsWith input front []
is_whole input front [] begins empty = begins
is_whole input front (b ∷ rest) begins empty = absurd (omega (arith, empty))

pub unlisted_rest : (input : List ℕ) (front : List (List ℕ)) (rest : List ℕ) → BeginsWith input front rest → length rest ≢ 0 → first_connection rest ≡ None → (connections : List (List ℕ)) → BeginsWith input connections [] → ⊥
unlisted_rest input front [] begins some none connections listed = some refl
unlisted_rest input front (b ∷ rest) begins some none connections listed = unlisted input front b rest begins none connections listed
