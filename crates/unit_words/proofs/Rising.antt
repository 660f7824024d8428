-- The numbers of faults at one place are in rising order.
use Rattle.std.proofs.Common.{ℕ, ◌<◌, ◌+◌, Bool, true, false, cond, List, [], ◌∷◌, map, arith}
use Rattle.std.specs.Prelude.{filter}
use Rattle.pg_text.specs.declared.translation_fault.TranslationFault.{TranslationFault}
use Rattle.pg_text.specs.Faults.{number_of}
use Rattle.page_directives.specs.Faults.{has_fault, all_faults, in_order}
use Rattle.unit_words.specs.Laws.{AreAbove, HasRisingNumbers}

lower : (n m : ℕ) (ms : List ℕ) → n < m → AreAbove m ms → AreAbove n ms
lower n m [] lt h = tt
lower n m (k ∷ ms) lt h = (omega (arith, lt, h.0), h.1)

kept : (n : ℕ) (fault : TranslationFault) (faults rest : List TranslationFault) (b : Bool) → n < number_of fault
    → ((k : ℕ) → AreAbove k (map number_of faults) → AreAbove k (map number_of rest)) → AreAbove (number_of fault) (map number_of faults)
    → AreAbove n (map number_of (cond b (fault ∷ rest) rest))
kept n fault faults rest true lt h above = (lt, h (number_of fault) above)
kept n fault faults rest false lt h above = h n (lower n (number_of fault) (map number_of faults) lt above)

filtered : (p : TranslationFault → Bool) (faults : List TranslationFault) (n : ℕ) → AreAbove n (map number_of faults) → AreAbove n (map number_of (filter p faults))
filtered p [] n h = tt
filtered p (fault ∷ faults) n h = kept n fault faults (filter p faults) (p fault) h.0 (λ k above. filtered p faults k above) h.1

next : (n : ℕ) → n < n + 1
next n = omega arith

numbers_rise : AreAbove 0 (map number_of all_faults)
numbers_rise = (next 0, (next 1, (next 2, (next 3, (next 4, (next 5, (next 6, (next 7, (next 8, (next 9, (next 10, (next 11, (next 12, (next 13, (next 14, (next 15, (next 16, (next 17, (next 18, (next 19, (next 20, tt)))))))))))))))))))))

pub rising : HasRisingNumbers
unfolding in_order
rising found = filtered (has_fault found) all_faults 0 numbers_rise
