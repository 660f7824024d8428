-- What stands between two places of a buffer.
use Rattle.std.proofs.Common.{◌≡◌, ℕ, ◌+◌, ◌-◌, ◌≤◌, List, ◌++◌, length, take, drop, refl, sym, ap, ◌∙◌, arith, length-take-le}
use Rattle.std.proofs.lemmas.List.{drop-append-le, drop-drop, drop-take, length-drop, length-take, take-append-le, take-take, take_all, take_at}
use Rattle.std.proofs.lemmas.List.Edits.{length-paste, take-paste}
use Rattle.std.proofs.Math.Seq.{take-append-add}
use Rattle.std.specs.List.{copy_within}
use borrow.Rule.Slice.PartMut.{put_mid, post_of}

-- how many they are
pub between_length : (items : List ℕ) (used read : ℕ) → used ≤ read → read ≤ length items → length (drop used (take read items)) ≡ read - used
between_length items used read order within = length-drop used (take read items) ∙ ap (λ n. n - used) (length-take-le read items within)

-- what was read into the room behind them, as far as it counts, stands behind them
pub read_behind : (items piece : List ℕ) (used read room count : ℕ) → used ≤ read → read ≤ length items → count ≤ length piece
    → drop used (take (read + count) (put_mid read room items piece)) ≡ drop used (take read items) ++ take count piece
read_behind items piece used read room count order within few =
    let front = length-take-le read items within in
    let seam : read + count ≡ length (take read items) + count = omega (arith, front) in
    let all : take (read + count) (put_mid read room items piece) ≡ take read items ++ take count piece =
    ap (λ n. take n (take read items ++ (piece ++ post_of read room items))) seam
    ∙ take-append-add (take read items) (piece ++ post_of read room items) count
    ∙ ap (λ l. take read items ++ l) (take-append-le count piece (post_of read room items) few) in
    ap (drop used) all ∙ drop-append-le used (take read items) (take count piece) (omega (arith, front))

-- what comes to the front is the same
pub moved_is : (items : List ℕ) (used read : ℕ) → used ≤ read → read ≤ length items → take (read - used) (copy_within items used read 0) ≡ drop used (take read items)
moved_is items used read order within =
    let fits : read - used ≤ length (drop used items) = omega (arith, length-drop used items) in
    let whole : used + (read - used) ≡ read = omega arith in
    let front : read - used ≡ 0 + (read - used) = omega arith in
    ap (λ n. take n (copy_within items used read 0)) front
    ∙ take-paste items 0 (drop used items) (read - used) (omega arith) fits
    ∙ sym (drop-take used (read - used) items) ∙ ap (λ n. drop used (take n items)) whole

-- the buffer is as long as before
pub moved_length : (items : List ℕ) (used read : ℕ) → used ≤ read → read ≤ length items → length (copy_within items used read 0) ≡ length items
moved_length items used read order within = length-paste items 0 (drop used items) (read - used) (omega arith) (omega (arith, length-drop used items))

-- zeros behind them leave the front as it was
pub grown_front : (old new zeros : List ℕ) (len : ℕ) → length old ≤ len → new ≡ take len old ++ zeros → take (length old) new ≡ old
grown_front old new zeros len more is =
    ap (take (length old)) (is ∙ ap (λ l. l ++ zeros) (take_all len old more)) ∙ take_at old zeros (length old) refl

-- a buffer with the same front holds the same before the place
pub longer_is : (old new : List ℕ) (used read : ℕ) → read ≤ length old → take (length old) new ≡ old → drop used (take read new) ≡ drop used (take read old)
longer_is old new used read within front =
    ap (drop used) (sym (take-take read (length old) new within) ∙ ap (take read) front)

pub longer_length : (old new : List ℕ) → take (length old) new ≡ old → length old ≤ length new
longer_length old new front = omega (arith, length-take (length old) new, ap length front)

-- a buffer that got longer, into which a piece was read behind the place
pub filled : (short items piece : List ℕ) (used read room count : ℕ) (was : List ℕ) → used ≤ read → read ≤ length short → take (length short) items ≡ short → count ≤ length piece
    → drop used (take read short) ≡ was → drop used (take (read + count) (put_mid read room items piece)) ≡ was ++ take count piece
filled short items piece used read room count was order within front few view =
    let long = longer_length short items front in
    read_behind items piece used read room count order (omega arith) few
    ∙ ap (λ l. l ++ take count piece) (longer_is short items used read within front ∙ view)

-- behind the first of them stands the rest
pub dropped_is : (items : List ℕ) (used read count : ℕ) → drop (used + count) (take read items) ≡ drop count (drop used (take read items))
dropped_is items used read count = sym (drop-drop count used (take read items))
