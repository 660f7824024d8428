-- Where the items of blocks are.
use Rattle.std.proofs.Common.{◌≡◌, ℕ, zero, suc, ◌+◌, ◌-◌, ◌*◌, ◌/◌, ◌%◌, ◌<◌, ◌≤◌, List, [], ◌∷◌, ◌++◌, length, get_or, Option, Some, None, Bor, refl, sym, ap, ◌∙◌, arith}
use Rattle.std.specs.Prelude.{slice_get, option_copied}
use Rattle.std.specs.Slice.{IsItemAt}
use Rattle.std.proofs.Math.Nat.{div-add-mod}
use Rattle.std.proofs.lemmas.Option.{slice_get_past, slice_get_read}
use Rattle.std.specs.List.{All}
use Rattle.std.specs.declared.vec.Vec.{Vec}
use Rattle.std.proofs.lemmas.List.{append_assoc, length-append}
use Rattle.std.proofs.lemmas.List.Elements.{All-head, All-tail}
use Rattle.block_list.specs.Blocks.{IsFull, Roomy, block, joined, roomy}

-- an item of the first of two lists
pub at_front : {X : Type 0} (xs ys : List X) (n : ℕ) → n < length xs → slice_get (xs ++ ys) n ≡ slice_get xs n
at_front [] ys n within = absurd (omega arith)
at_front (x ∷ xs) ys zero within = refl
at_front (x ∷ xs) ys (suc n) within = at_front xs ys n (omega arith)

-- an item of the second
pub at_rear : {X : Type 0} (xs ys : List X) (n : ℕ) → slice_get (xs ++ ys) (length xs + n) ≡ slice_get ys n
at_rear [] ys n = ap (slice_get ys) (omega arith)
at_rear (x ∷ xs) ys n =
    let place : length (x ∷ xs) + n ≡ suc (length xs + n) = omega arith in
    ap (slice_get ((x ∷ xs) ++ ys)) place ∙ at_rear xs ys n

-- what a look at a place answers
pub looked : {X : Type 0} (xs : List X) (i : ℕ) (r : Option (Bor X)) → IsItemAt xs i r → option_copied r ≡ slice_get xs i
looked xs i None is = sym (slice_get_past xs i is.3)
looked xs i (Some x) is = sym (slice_get_read xs (length xs) i x.now refl is.3.0 (is.3.1 x.now))

module _ {X Z : Type 0} where
  -- how many items full blocks have
  pub length_joined : (bs : List (Vec X Z)) → All IsFull bs → length (joined bs) ≡ block * length bs
  length_joined [] all = refl
  length_joined (b ∷ bs) all =
      let ih = length_joined bs (All-tail IsFull b bs all) in
      let here : length b.items ≡ block = All-head IsFull b bs all in
      let both = length-append b.items (joined bs) in
      omega (arith, ih, here, both)

  -- an item of a full block
  pub in_block : (bs : List (Vec X Z)) (xs : List X) (i j : ℕ) (d : Vec X Z) → All IsFull bs → i < length bs → j < block → slice_get (joined bs ++ xs) (block * i + j) ≡ slice_get (get_or bs i d).items j
  in_block [] xs i j d all within small = absurd (omega arith)
  in_block (b ∷ bs) xs zero j d all within small =
      let here : length b.items ≡ block = All-head IsFull b bs all in
      let place : block * 0 + j ≡ j = omega arith in
      ap (slice_get ((b.items ++ joined bs) ++ xs)) place
      ∙ ap (λ l. slice_get l j) (append_assoc b.items (joined bs) xs)
      ∙ at_front b.items (joined bs ++ xs) j (omega (arith, here))
  in_block (b ∷ bs) xs (suc i) j d all within small =
      let here : length b.items ≡ block = All-head IsFull b bs all in
      let place : block * suc i + j ≡ length b.items + (block * i + j) = omega (arith, here) in
      ap (slice_get ((b.items ++ joined bs) ++ xs)) place
      ∙ ap (λ l. slice_get l (length b.items + (block * i + j))) (append_assoc b.items (joined bs) xs)
      ∙ at_rear b.items (joined bs ++ xs) (block * i + j)
      ∙ in_block bs xs i j d (All-tail IsFull b bs all) (omega arith) small

  -- an item behind the full blocks
  pub behind : (bs : List (Vec X Z)) (xs : List X) (n : ℕ) → All IsFull bs → slice_get (joined bs ++ xs) (block * length bs + n) ≡ slice_get xs n
  behind bs xs n all = ap (λ k. slice_get (joined bs ++ xs) (k + n)) (sym (length_joined bs all)) ∙ at_rear (joined bs) xs n

  -- the same, as a list in blocks is seen

  pub counted : (bs : List (Vec X Z)) (xs : List X) (room : ℕ) (l : Roomy X) (n m : ℕ) → All IsFull bs → roomy (joined bs ++ xs) room ≡ l → n ≡ length bs → m ≡ length xs → block * n + m ≡ length l.items
  counted bs xs room l n m all is many some =
      let both = length-append (joined bs) xs in
      let full = length_joined bs all in
      let seen : length (joined bs ++ xs) ≡ length l.items = ap (λ (v : Roomy X). length v.items) is in
      omega (arith, both, full, seen, many, some)

  pub found : (bs : List (Vec X Z)) (xs : List X) (room place : ℕ) (l : Roomy X) (b : Bor (Vec X Z)) (items : List X) (r : Option (Bor X)) → All IsFull bs → roomy (joined bs ++ xs) room ≡ l
      → IsItemAt bs (place / 4096) (Some b) → items ≡ b.now.items → IsItemAt items (place % 4096) r → option_copied r ≡ slice_get l.items place
  found bs xs room place l b items r all is there same at =
      let here = there.3 in
      let small : place % 4096 < block = omega arith in
      looked items (place % 4096) r at
      ∙ ap (λ ys. slice_get ys (place % 4096)) same
      ∙ ap (λ (v : Vec X Z). slice_get v.items (place % 4096)) (here.1 b.now)
      ∙ sym (in_block bs xs (place / 4096) (place % 4096) b.now all here.0 small)
      ∙ ap (slice_get (joined bs ++ xs)) (div-add-mod place 4096)
      ∙ ap (λ (v : Roomy X). slice_get v.items place) is

  pub missed : (bs : List (Vec X Z)) (xs : List X) (room place n : ℕ) (l : Roomy X) (items : List X) (r : Option (Bor X)) → All IsFull bs → roomy (joined bs ++ xs) room ≡ l
      → length bs ≤ place / 4096 → n ≡ length bs → items ≡ xs → IsItemAt items (place - 4096 * n) r → option_copied r ≡ slice_get l.items place
  missed bs xs room place n l items r all is past many same at =
      let place_is : block * length bs + (place - 4096 * n) ≡ place = omega (arith, past, many) in
      looked items (place - 4096 * n) r at
      ∙ ap (λ ys. slice_get ys (place - 4096 * n)) same
      ∙ sym (behind bs xs (place - 4096 * n) all)
      ∙ ap (slice_get (joined bs ++ xs)) place_is
      ∙ ap (λ (v : Roomy X). slice_get v.items place) is
