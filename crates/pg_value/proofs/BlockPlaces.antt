-- Entries in blocks: where a key stands among them, and what a change of one block makes of them all.
use Rattle.std.proofs.Common.{◌≡◌, ◌<◌, ◌≤◌, ◌+◌, ◌-◌, ◌^◌, ℕ, zero, suc, List, [], ◌∷◌, ◌++◌, length, get_or, set, not, Bool, true, false, Some, None, Less, Equal, Greater, cond, refl, sym, ap, ◌∙◌, subst, arith, append_assoc, add-one}
use Rattle.std.proofs.lemmas.List.{get_or_default}
use Rattle.std.specs.declared.cmp.Ordering.{Ordering}
use Rattle.std.specs.Cmp.Lexicographic.{nat_list_cmp_total}
use Rattle.std.specs.List.{AllByRecursion, insert, remove}
use Rattle.std.specs.List.Sorted.{IsStrictlySortedBy}
use Rattle.std.specs.Map.{keys_of}
use Rattle.std.specs.Ordering.{is_lt, match_ordering}
use Rattle.std.specs.Str.{bytes_eq}
use Rattle.pg_text.proofs.Halving.{by_order, equal_names, order, turned}
use Rattle.pg_value.specs.Attrs.{AreInOrder, entry_at, with_entry, with_value_at, without_entry}
use Rattle.pg_value.specs.Datum.{Datum}
use Rattle.pg_value.specs.ReadEntries.{AreBlocks, AreFilled, AreKept, in_entries, is_behind, joined}
use Rattle.pg_value.specs.ReadPlace.{IsPlaceOf}
use Rattle.pg_value.specs.declared.entries.Entries.{Entries as Kept}
use Rattle.pg_value.specs.declared.entries.Entries.TheVariants as entries
use Rattle.pg_value.proofs.Order.{above_lower, AreInOrder-with_entry, AreInOrder-without_entry}
use Rattle.pg_value.proofs.Placed.{AreInOrder-with_value_at, length-with_value_at}

abbrev pub Block : Type 0
Block = List (List ℕ × Datum)

-- all keys of the block are below the key, or above it
abbrev pub AreBelow : List ℕ → Block → Type 0
AreBelow k b = AllByRecursion (λ l. order l k ≡ Less) (keys_of b)

abbrev pub AreAbove : List ℕ → Block → Type 0
AreAbove k b = AllByRecursion (λ l. order k l ≡ Less) (keys_of b)

-- the key stands in this block, where it stands in any
abbrev pub IsAt : List ℕ → List Block → ℕ → Type 0
IsAt k [] i = ⊥
IsAt k (b ∷ bs) zero = AreAbove k (joined bs)
IsAt k (b ∷ bs) (suc i) = AreBelow k b × IsAt k bs i

-- what holds of entries one after the other

above_front : (k : List ℕ) (b js : Block) → AreAbove k (b ++ js) → AreAbove k b
above_front k [] js h = tt
above_front k (e ∷ b) js h = (h.0, above_front k b js h.1)

above_back : (k : List ℕ) (b js : Block) → AreAbove k (b ++ js) → AreAbove k js
above_back k [] js h = h
above_back k (e ∷ b) js h = above_back k b js h.1

pub order_back : (b js : Block) → AreInOrder (b ++ js) → AreInOrder js
unfolding IsStrictlySortedBy
order_back [] js h = h
order_back (e ∷ b) js h = order_back b js h.1

-- where the search ends

less_by : (o : Ordering) → is_lt o ≡ true → o ≡ Less
less_by Less h = refl
less_by Equal h = cc
less_by Greater h = cc

begins_above : (k : List ℕ) (js : Block) → AreInOrder js → is_behind k js ≡ true → AreAbove k js
unfolding IsStrictlySortedBy
begins_above k [] sorted h = tt
begins_above k (e ∷ js) sorted h =
    let first : order k e.0 ≡ Less = less_by (order k e.0) h in
    (first, above_lower k e.0 (keys_of js) first sorted.0)

below_by : (o : Ordering) (l k f : List ℕ) → order k f ≡ o → order l f ≡ Less → is_lt o ≡ false → order l k ≡ Less
below_by Less l k f is low h = cc
below_by Equal l k f is low h = subst (λ m. order l m ≡ Less) (sym (equal_names k f is)) low
below_by Greater l k f is low h = nat_list_cmp_total.trans l f k low (turned k f Greater is)

-- a key that is below all of these is below one above which they don't begin
below_first : (l k : List ℕ) (b : Block) → AreAbove l b → 0 < length b → is_behind k b ≡ false → order l k ≡ Less
below_first l k [] above some h = absurd (omega (arith, some))
below_first l k (f ∷ b) above some h = below_by (order k f.0) l k f.0 refl above.0 h

below_one : (l k : List ℕ) (bs : List Block) (i : ℕ) → AreAbove l (joined bs) → AreFilled bs → i < length bs → is_behind k (get_or bs i []) ≡ false → order l k ≡ Less
below_one l k [] i above filled within h = absurd (omega (arith, within))
below_one l k (b ∷ bs) zero above filled within h = below_first l k b (above_front l b (joined bs) above) filled.0 h
below_one l k (b ∷ bs) (suc i) above filled within h = below_one l k bs i (above_back l b (joined bs) above) filled.1 (omega (arith, within)) h

all_below : (k : List ℕ) (b : Block) (bs : List Block) (i : ℕ) → AreInOrder (b ++ joined bs) → AreFilled bs → i < length bs → is_behind k (get_or bs i []) ≡ false → AreBelow k b
unfolding IsStrictlySortedBy
all_below k [] bs i sorted filled within h = tt
all_below k (e ∷ b) bs i sorted filled within h = (below_one e.0 k bs i (above_back e.0 b (joined bs) sorted.0) filled within h, all_below k b bs i sorted.1 filled within h)

begins_joined : (k : List ℕ) (b js : Block) → 0 < length b → is_behind k b ≡ true → is_behind k (b ++ js) ≡ true
begins_joined k [] js some h = absurd (omega (arith, some))
begins_joined k (e ∷ b) js some h = h

rest_above : (k : List ℕ) (bs : List Block) → AreInOrder (joined bs) → AreFilled bs → (0 < length bs → is_behind k (get_or bs 0 []) ≡ true) → AreAbove k (joined bs)
rest_above k [] sorted filled to = tt
rest_above k (b ∷ bs) sorted filled to = begins_above k (b ++ joined bs) sorted (begins_joined k b (joined bs) filled.0 (to (omega arith)))

reached : (k : List ℕ) (bs : List Block) (i : ℕ) → AreInOrder (joined bs) → AreFilled bs → i < length bs
    → (0 < i → is_behind k (get_or bs i []) ≡ false) → (suc i < length bs → is_behind k (get_or bs (suc i) []) ≡ true) → IsAt k bs i
reached k [] i sorted filled within from to = absurd (omega (arith, within))
reached k (b ∷ bs) zero sorted filled within from to = rest_above k bs (order_back b (joined bs) sorted) filled.1 (λ more. to (omega (arith, more)))
reached k (b ∷ bs) (suc i) sorted filled within from to = (
  all_below k b bs i sorted filled.1 (omega (arith, within)) (from (omega arith)),
  reached k bs i (order_back b (joined bs) sorted) filled.1 (omega (arith, within)) (λ later. from (omega arith)) (λ more. to (omega (arith, more))),
)

-- the key stands in the block of its place
pub at_place : (k : List ℕ) (bs : List Block) (i : ℕ) → AreInOrder (joined bs) → AreFilled bs → IsPlaceOf k bs i → IsAt k bs i
at_place k bs i sorted filled place =
    reached k bs i sorted filled place.within place.from (λ more. subst (λ n. is_behind k (get_or bs n []) ≡ true) {x = i + 1} {y = suc i} (omega arith) (place.to (omega (arith, more))))

-- what stands under it

below_none : (k : List ℕ) (b js : Block) → AreBelow k b → entry_at k (b ++ js) ≡ entry_at k js
below_none k [] js h = refl
below_none k (e ∷ b) js h = rw (by_order Greater k e.0 (turned e.0 k Less h.0)) (below_none k b js h.1)

above_none : (k : List ℕ) (js : Block) → AreAbove k js → entry_at k js ≡ None
above_none k [] h = refl
above_none k (e ∷ js) h = rw (by_order Less k e.0 h.0) (above_none k js h.1)

above_skipped : (k : List ℕ) (b js : Block) → AreAbove k js → entry_at k (b ++ js) ≡ entry_at k b
above_skipped k [] js h = above_none k js h
above_skipped k (e ∷ b) js h = ap (cond (bytes_eq k e.0) (Some e.1)) (above_skipped k b js h)

pub entry_at-joined : (k : List ℕ) (bs : List Block) (i : ℕ) → IsAt k bs i → entry_at k (get_or bs i []) ≡ entry_at k (joined bs)
entry_at-joined k [] i at = absurd at
entry_at-joined k (b ∷ bs) zero at = sym (above_skipped k b (joined bs) at)
entry_at-joined k (b ∷ bs) (suc i) at = entry_at-joined k bs i at.1 ∙ sym (below_none k b (joined bs) at.0)

-- with an entry

with_below : (k : List ℕ) (d : Datum) (b js : Block) → AreBelow k b → with_entry (b ++ js) k d ≡ b ++ with_entry js k d
with_below k d [] js h = refl
with_below k d (e ∷ b) js h =
    let above : order k e.0 ≡ Greater = turned e.0 k Less h.0 in
    rw above (ap (λ more. e ∷ more) (with_below k d b js h.1))

with_above_all : (k : List ℕ) (d : Datum) (js : Block) → AreAbove k js → with_entry js k d ≡ (k, d) ∷ js
with_above_all k d [] h = refl
with_above_all k d (e ∷ js) h = rw h.0 refl

with_above_by : (o : Ordering) (k : List ℕ) (d : Datum) (e : List ℕ × Datum) (b js : Block) → with_entry (b ++ js) k d ≡ with_entry b k d ++ js
    → match_ordering o ((k, d) ∷ e ∷ b ++ js) ((e.0, d) ∷ b ++ js) (e ∷ with_entry (b ++ js) k d) ≡ match_ordering o ((k, d) ∷ e ∷ b) ((e.0, d) ∷ b) (e ∷ with_entry b k d) ++ js
with_above_by Less k d e b js later = refl
with_above_by Equal k d e b js later = refl
with_above_by Greater k d e b js later = ap (λ more. e ∷ more) later

with_above : (k : List ℕ) (d : Datum) (b js : Block) → AreAbove k js → with_entry (b ++ js) k d ≡ with_entry b k d ++ js
with_above k d [] js h = with_above_all k d js h
with_above k d (e ∷ b) js h = with_above_by (order k e.0) k d e b js (with_above k d b js h)

pub with_entry-joined : (k : List ℕ) (d : Datum) (bs : List Block) (i : ℕ) → IsAt k bs i → joined (set bs i (with_entry (get_or bs i []) k d)) ≡ with_entry (joined bs) k d
with_entry-joined k d [] i at = absurd at
with_entry-joined k d (b ∷ bs) zero at = sym (with_above k d b (joined bs) at)
with_entry-joined k d (b ∷ bs) (suc i) at = ap (λ js. b ++ js) (with_entry-joined k d bs i at.1) ∙ sym (with_below k d b (joined bs) at.0)

-- without an entry

without_below : (k : List ℕ) (b js : Block) → AreBelow k b → without_entry (b ++ js) k ≡ b ++ without_entry js k
without_below k [] js h = refl
without_below k (e ∷ b) js h = rw (by_order Greater k e.0 (turned e.0 k Less h.0)) (ap (λ more. e ∷ more) (without_below k b js h.1))

without_above_all : (k : List ℕ) (js : Block) → AreAbove k js → without_entry js k ≡ js
without_above_all k [] h = refl
without_above_all k (e ∷ js) h = rw (by_order Less k e.0 h.0) (ap (λ more. e ∷ more) (without_above_all k js h.1))

without_above_by : (kept : Bool) (e : List ℕ × Datum) (rest more js : Block) → more ≡ rest ++ js → cond kept (e ∷ more) more ≡ cond kept (e ∷ rest) rest ++ js
without_above_by true e rest more js later = ap (λ es. e ∷ es) later
without_above_by false e rest more js later = later

without_above : (k : List ℕ) (b js : Block) → AreAbove k js → without_entry (b ++ js) k ≡ without_entry b k ++ js
without_above k [] js h = without_above_all k js h
without_above k (e ∷ b) js h = without_above_by (not (bytes_eq k e.0)) e (without_entry b k) (without_entry (b ++ js) k) js (without_above k b js h)

pub without_entry-joined : (k : List ℕ) (bs : List Block) (i : ℕ) → IsAt k bs i → joined (set bs i (without_entry (get_or bs i []) k)) ≡ without_entry (joined bs) k
without_entry-joined k [] i at = absurd at
without_entry-joined k (b ∷ bs) zero at = sym (without_above k b (joined bs) at)
without_entry-joined k (b ∷ bs) (suc i) at = ap (λ js. b ++ js) (without_entry-joined k bs i at.1) ∙ sym (without_below k b (joined bs) at.0)

-- which leaves a block out where it is empty
pub joined-removed : (bs : List Block) (i : ℕ) (b : Block) → i < length bs → length b ≡ 0 → joined (remove bs i) ≡ joined (set bs i b)
joined-removed [] i b within none = absurd (omega (arith, within))
joined-removed (c ∷ bs) zero [] within none = refl
joined-removed (c ∷ bs) zero (e ∷ b) within none = absurd (omega (arith, none))
joined-removed (c ∷ bs) (suc i) b within none = ap (λ js. c ++ js) (joined-removed bs i b (omega (arith, within)) none)

-- a block in two
pub joined-halved : (bs : List Block) (i : ℕ) (front back : Block) → i < length bs → front ++ back ≡ get_or bs i [] → joined (set (insert bs (suc i) back) i front) ≡ joined bs
joined-halved [] i front back within halved = absurd (omega (arith, within))
joined-halved (b ∷ bs) zero front back within halved = sym (append_assoc front back (joined bs)) ∙ ap (λ es. es ++ joined bs) halved
joined-halved (b ∷ bs) (suc i) front back within halved = ap (λ js. b ++ js) (joined-halved bs i front back (omega (arith, within)) halved)

-- no block is empty

pub filled_at : (bs : List Block) (i : ℕ) → AreFilled bs → i < length bs → 0 < length (get_or bs i [])
filled_at [] i filled within = absurd (omega (arith, within))
filled_at (b ∷ bs) zero filled within = filled.0
filled_at (b ∷ bs) (suc i) filled within = filled_at bs i filled.1 (omega (arith, within))

pub AreFilled-set : (bs : List Block) (i : ℕ) (b : Block) → AreFilled bs → 0 < length b → AreFilled (set bs i b)
AreFilled-set [] i b filled some = tt
AreFilled-set (c ∷ bs) zero b filled some = (some, filled.1)
AreFilled-set (c ∷ bs) (suc i) b filled some = (filled.0, AreFilled-set bs i b filled.1 some)

pub AreFilled-removed : (bs : List Block) (i : ℕ) → AreFilled bs → AreFilled (remove bs i)
AreFilled-removed [] zero filled = tt
AreFilled-removed [] (suc i) filled = tt
AreFilled-removed (b ∷ bs) zero filled = filled.1
AreFilled-removed (b ∷ bs) (suc i) filled = (filled.0, AreFilled-removed bs i filled.1)

pub AreFilled-halved : (bs : List Block) (i : ℕ) (front back : Block) → AreFilled bs → 0 < length front → 0 < length back → AreFilled (set (insert bs (suc i) back) i front)
AreFilled-halved [] zero front back filled first second = (first, tt)
AreFilled-halved [] (suc i) front back filled first second = (second, tt)
AreFilled-halved (b ∷ bs) zero front back filled first second = (first, (second, filled.1))
AreFilled-halved (b ∷ bs) (suc i) front back filled first second = (filled.0, AreFilled-halved bs i front back filled.1 first second)

pub AreFilled-pushed : (bs : List Block) (b : Block) → AreFilled bs → 0 < length b → AreFilled (bs ++ b ∷ [])
AreFilled-pushed [] b filled some = (some, tt)
AreFilled-pushed (c ∷ bs) b filled some = (filled.0, AreFilled-pushed bs b filled.1 some)

-- a block with an entry isn't empty
with_some_by : (o : Ordering) (k : List ℕ) (d : Datum) (e : List ℕ × Datum) (es more : Block) → 0 < length (match_ordering o ((k, d) ∷ e ∷ es) ((e.0, d) ∷ es) (e ∷ more))
with_some_by Less k d e es more = omega arith
with_some_by Equal k d e es more = omega arith
with_some_by Greater k d e es more = omega arith

pub with_some : (es : Block) (k : List ℕ) (d : Datum) → 0 < length (with_entry es k d)
with_some [] k d = omega arith
with_some (e ∷ es) k d = with_some_by (order k e.0) k d e es (with_entry es k d)

-- nor are there more entries without one
without_more_by : (kept : Bool) (e : List ℕ × Datum) (rest : Block) (n : ℕ) → length rest ≤ n → length (cond kept (e ∷ rest) rest) ≤ suc n
without_more_by true e rest n h = omega (arith, h)
without_more_by false e rest n h = omega (arith, h)

without_more : (es : Block) (k : List ℕ) → length (without_entry es k) ≤ length es
without_more [] k = omega arith
without_more (e ∷ es) k = without_more_by (not (bytes_eq k e.0)) e (without_entry es k) (length es) (without_more es k)

-- one more, at most
with_one_by : (o : Ordering) (k : List ℕ) (d : Datum) (e : List ℕ × Datum) (es more : Block) → length more ≤ length es + 1 → length (match_ordering o ((k, d) ∷ e ∷ es) ((e.0, d) ∷ es) (e ∷ more)) ≤ length es + 2
with_one_by Less k d e es more h = omega arith
with_one_by Equal k d e es more h = omega arith
with_one_by Greater k d e es more h = omega (arith, h)

pub with_one : (es : Block) (k : List ℕ) (d : Datum) → length (with_entry es k d) ≤ length es + 1
with_one [] k d = omega arith
with_one (e ∷ es) k d = omega (arith, with_one_by (order k e.0) k d e es (with_entry es k d) (with_one es k d))

-- the block at a place, as the code reads it
pub at_default : (bs : List Block) (i : ℕ) (b : Block) → i < length bs → b ≡ get_or bs i b → b ≡ get_or bs i []
at_default bs i b within at = at ∙ get_or_default bs i b [] within

module _ (k : List ℕ) (bs : List Block) (i : ℕ) (b : Block) (kept : AreBlocks bs) (place : IsPlaceOf k bs i) (is : b ≡ get_or bs i []) where
  pub found_in : entry_at k b ≡ entry_at k (joined bs)
  found_in = ap (entry_at k) is ∙ entry_at-joined k bs i (at_place k bs i kept.order kept.filled place)

  pub with_in : (d : Datum) (new : Block) → new ≡ with_entry b k d → joined (set bs i new) ≡ with_entry (joined bs) k d
  with_in d new made = ap (λ c. joined (set bs i c)) (made ∙ ap (λ c. with_entry c k d) is) ∙ with_entry-joined k d bs i (at_place k bs i kept.order kept.filled place)

  pub with_in_filled : (d : Datum) (new : Block) → new ≡ with_entry b k d → AreFilled (set bs i new)
  with_in_filled d new made = AreFilled-set bs i new kept.filled (omega (arith, with_some b k d, ap length made))

  pub without_in : (new : Block) → new ≡ without_entry b k → joined (set bs i new) ≡ without_entry (joined bs) k
  without_in new made = ap (λ c. joined (set bs i c)) (made ∙ ap (λ c. without_entry c k) is) ∙ without_entry-joined k bs i (at_place k bs i kept.order kept.filled place)

  pub left_out : (new : Block) → new ≡ without_entry b k → length new ≡ 0 → joined (remove bs i) ≡ without_entry (joined bs) k
  left_out new made none = joined-removed bs i new place.within none ∙ without_in new made

-- the same of what was lent for the search
pub place_as : (k l : List ℕ) (bs cs : List Block) (i : ℕ) → k ≡ l → bs ≡ cs → IsPlaceOf k bs i → IsPlaceOf l cs i
place_as k l bs cs i key same place = subst (λ (ds : List Block). IsPlaceOf l ds i) same (subst (λ (m : List ℕ). IsPlaceOf m bs i) key place)

pub block_as : (bs cs : List Block) (i : ℕ) (b : Block) → bs ≡ cs → b ≡ get_or bs i [] → b ≡ get_or cs i []
block_as bs cs i b same is = is ∙ ap (λ ds. get_or ds i []) same

-- where the search ends
pub place_found : (k : List ℕ) (bs : List Block) (low high : ℕ) → 1 ≤ low → low ≤ high → high ≤ length bs → (1 < low → is_behind k (get_or bs (low - 1) []) ≡ false)
    → (high < length bs → is_behind k (get_or bs high []) ≡ true) → high ≤ low → IsPlaceOf k bs (low - 1)
place_found k bs low high least most within from to done = record {
  within = omega (arith, least, most, within);
  from = λ later. from (omega (arith, later));
  to = λ more. subst (λ n. is_behind k (get_or bs n []) ≡ true) {x = high} {y = low - 1 + 1} (omega (arith, least, most, done)) (to (omega (arith, more, least, most, done)));
}

-- how the block that is read on the way begins
pub read_begin : (k : List ℕ) (bs : List Block) (i : ℕ) (b : Block) (r v : Bool) → i < length bs → b ≡ get_or bs i b → r ≡ is_behind k b → r ≡ v → is_behind k (get_or bs i []) ≡ v
read_begin k bs i b r v within at is told = sym (ap (is_behind k) (at_default bs i b within at)) ∙ sym is ∙ told

pub read_before : (k : List ℕ) (bs : List Block) (i : ℕ) (b : Block) (r : Bool) → i < length bs → b ≡ get_or bs i b → r ≡ is_behind k b → r ≡ false → is_behind k (get_or bs (i + 1 - 1) []) ≡ false
read_before k bs i b r within at is told = subst (λ n. is_behind k (get_or bs n []) ≡ false) {x = i} {y = i + 1 - 1} (omega arith) (read_begin k bs i b r false within at is told)

-- a block in two, as the code makes them
pub halved : (bs : List Block) (i : ℕ) (b front back : Block) → i < length bs → b ≡ get_or bs i [] → front ++ back ≡ b → joined (set (insert bs (i + 1) back) i front) ≡ joined bs
halved bs i b front back within at is =
    ap (λ n. joined (set (insert bs n back) i front)) (add-one i) ∙ joined-halved bs i front back within (is ∙ at)

pub halved_filled : (bs : List Block) (i : ℕ) (front back : Block) → AreFilled bs → 0 < length front → 0 < length back → AreFilled (set (insert bs (i + 1) back) i front)
halved_filled bs i front back filled first second = subst (λ n. AreFilled (set (insert bs n back) i front)) (sym (add-one i)) (AreFilled-halved bs i front back filled first second)

-- what keeps blocks such

pub blocks_as : (old new : List Block) → AreBlocks old → joined new ≡ joined old → AreFilled new → AreBlocks new
blocks_as old new kept same filled = record { order = subst AreInOrder (sym same) kept.order; filled = filled; few = omega (arith, kept.few, ap length same) }

pub blocks_with : (old new : List Block) (k : List ℕ) (d : Datum) → AreBlocks old → joined new ≡ with_entry (joined old) k d → AreFilled new → length (joined old) + 1 < 2 ^ 63 → AreBlocks new
blocks_with old new k d kept same filled room = record {
  order = subst AreInOrder (sym same) (AreInOrder-with_entry (joined old) k d kept.order);
  filled = filled;
  few = omega (arith, with_one (joined old) k d, room, ap length same);
}

pub blocks_without : (old new : List Block) (k : List ℕ) → AreBlocks old → joined new ≡ without_entry (joined old) k → AreFilled new → AreBlocks new
blocks_without old new k kept same filled = record {
  order = subst AreInOrder (sym same) (AreInOrder-without_entry (joined old) k kept.order);
  filled = filled;
  few = omega (arith, without_more (joined old) k, kept.few, ap length same);
}

pub blocks_placed : (old new : List Block) (at : ℕ) (d : Datum) → AreBlocks old → joined new ≡ with_value_at (joined old) at d → AreFilled new → AreBlocks new
blocks_placed old new at d kept same filled = record {
  order = subst AreInOrder (sym same) (AreInOrder-with_value_at (joined old) at d kept.order);
  filled = filled;
  few = omega (arith, length-with_value_at (joined old) at d, kept.few, ap length same);
}

-- entries in order, few or many
pub kept_order : (es : Kept) → AreKept es → AreInOrder (in_entries es)
kept_order (entries.Few es) kept = kept
kept_order (entries.Many bs) kept = kept.order

-- no entry, one entry, and one in a block

pub no_blocks : (bs : List Block) → bs ≡ [] → AreBlocks bs
unfolding IsStrictlySortedBy
no_blocks bs none = subst AreBlocks (sym none) (record { order = tt; filled = tt; few = omega arith })

pub one_in_order : (e : List ℕ × Datum) → AreInOrder (e ∷ [])
unfolding IsStrictlySortedBy
one_in_order e = (tt, tt)

pub one_block : (e : List ℕ × Datum) → AreBlocks ((e ∷ []) ∷ [])
unfolding IsStrictlySortedBy
one_block e = record { order = (tt, tt); filled = (omega arith, tt); few = omega arith }

-- where there is no block, nothing is taken out
pub none_left : (bs : List Block) (k : List ℕ) → bs ≡ [] → joined bs ≡ without_entry (joined bs) k
none_left bs k none = ap joined none ∙ ap (λ cs. without_entry (joined cs) k) (sym none)
