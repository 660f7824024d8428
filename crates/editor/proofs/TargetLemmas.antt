-- Targets of messages.
use Rattle.std.proofs.Common.{◌≡◌, ◌≤◌, ℕ, Bool, true, false, ◌&&◌, not, nat_eq, List, length, take, drop, refl, ap, arith}
use Rattle.std.specs.List.{list_any, starts_with}
use Rattle.std.specs.Prelude.{codes}
use Rattle.std.proofs.lemmas.Bool.{false≢true}
use Rattle.std.proofs.lemmas.List.{length-take}
use Rattle.std.proofs.lemmas.Slice.Eq.{bytes_eq-Decides}
use Rattle.http_in.specs.Target.{is_mark}
use Rattle.pg_text.specs.Numbers.{whole_number}
use Rattle.editor.specs.Message.{is_based, is_file_target, is_publish, posted, publish_for}

-- a text that begins with a mark is no shorter
mark_is_short : (text mark : List ℕ) → starts_with nat_eq text mark ≡ true → length mark ≤ length text
mark_is_short text mark begins =
    let front : mark ≡ take (length mark) text = (bytes_eq-Decides mark (take (length mark) text)).0 begins in
    omega (arith, length-take (length mark) text, ap length front)

first : (a b : Bool) → (a && b) ≡ true → a ≡ true
first true b e = refl
first false b e = absurd (false≢true e)

-- a target that names a file has a path
pub file_target_is_long : (target : List ℕ) → is_file_target target ≡ true → 15 ≤ length target
unfolding is_file_target
file_target_is_long target is = mark_is_short target (codes "/_editor/files/") (first (starts_with nat_eq target (codes "/_editor/files/")) (not (list_any is_mark target)) is)

-- a target that publishes for a base has what stands before it
pub based_is_long : (target : List ℕ) → is_based target ≡ true → 22 ≤ length target
unfolding is_based
based_is_long target is = mark_is_short target (codes "/_editor/publish?base=") is

-- what a target that publishes for a base says
pub posted_for : (target : List ℕ) → is_publish target ≡ false → is_based target ≡ true → posted target ≡ publish_for (whole_number (drop 22 target))
posted_for target other based = rw (other, based) refl
