-- What is put where it stood changes nothing.
use Rattle.std.proofs.Common.{◌≡◌, ◌≢◌, List, ℕ, Some, Bool, true, false, refl, sym, ap, ◌∙◌}
use Rattle.std.specs.Str.{bytes_eq}
use Rattle.std.proofs.lemmas.Slice.Eq.{bytes_eq-Decides}
use Rattle.pg_value.specs.Attrs.{AreInOrder, entry_at, with_entry, without_entry}
use Rattle.pg_value.specs.Datum.{Datum}
use Rattle.pg_value.proofs.Gathered.{Entries, same_entries}
use Rattle.pg_value.proofs.Lookups.{entry_at-with_entry, entry_at-with_entry_other, entry_at-without_entry_other}
use Rattle.pg_value.proofs.Order.{AreInOrder-with_entry, AreInOrder-without_entry}

other_key : (k key : List ℕ) → bytes_eq k key ≡ false → k ≢ key
other_key k key is = λ same. let no : true ≡ false = sym ((bytes_eq-Decides k key).1 same) ∙ is in cc

-- what was put under a key that had it before is found as before, if the other keys are as before
by_key : (b : Bool) (k key : List ℕ) (d : Datum) (es was : Entries) → bytes_eq k key ≡ b → entry_at key es ≡ Some d
    → ((other : List ℕ) → other ≢ key → entry_at other was ≡ entry_at other es) → entry_at k (with_entry was key d) ≡ entry_at k es
by_key true k key d es was is stands others =
    let same : k ≡ key = (bytes_eq-Decides k key).0 is in
    ap (λ m. entry_at m (with_entry was key d)) same ∙ entry_at-with_entry was key d ∙ sym stands ∙ ap (λ m. entry_at m es) (sym same)
by_key false k key d es was is stands others =
    entry_at-with_entry_other was k key d (other_key k key is) ∙ others k (other_key k key is)

-- put again where it stands
pub put_again : (es : Entries) (key : List ℕ) (d : Datum) → AreInOrder es → entry_at key es ≡ Some d → with_entry es key d ≡ es
put_again es key d order stands =
    same_entries _ _ (AreInOrder-with_entry es key d order) order (λ k. by_key (bytes_eq k key) k key d es es refl stands (λ other ne. refl))

-- taken out and put back
pub put_back : (es : Entries) (key : List ℕ) (d : Datum) → AreInOrder es → entry_at key es ≡ Some d → with_entry (without_entry es key) key d ≡ es
put_back es key d order stands =
    same_entries _ _ (AreInOrder-with_entry (without_entry es key) key d (AreInOrder-without_entry es key order)) order
    (λ k. by_key (bytes_eq k key) k key d es (without_entry es key) refl stands (λ other ne. entry_at-without_entry_other es other key ne))
