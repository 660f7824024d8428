-- How many messages of each kind there are.
use Rattle.std.proofs.Common.{◌≡◌, ℕ, zero, suc, ◌+◌, ◌*◌, List, [], ◌∷◌, ◌++◌, map, refl, ◌∙◌, arith}
use Rattle.std.specs.Prelude.{flat_map, sum_by}
use Rattle.std.specs.List.{range_with_len}
use Rattle.std.proofs.lemmas.List.Sums.{sum_by-append, sum_by-cons}
use Rattle.load_gen.specs.declared.message.Message.{Message}
use Rattle.load_gen.specs.declared.message.Message.TheVariants.{Publish}
use Rattle.load_gen.specs.Messages.{IsCounted, asks, first_part, messages, page_put, publishes, round, rounds}

-- no message of a list counts where none does by itself
none_of : (count : Message → ℕ) (f : ℕ → Message) → ((i : ℕ) → count (f i) ≡ 0) → (from length : ℕ) → sum_by count (map f (range_with_len from length)) ≡ 0
none_of count f none from zero = refl
none_of count f none from (suc length) =
    let rest : ℕ = sum_by count (map f (range_with_len (from + 1) length)) in
    let here : count (f from) + rest ≡ 0 = omega (arith, none from, none_of count f none (from + 1) length) in
    sum_by-cons count (f from) (map f (range_with_len (from + 1) length)) ∙ here

-- each round publishes once
published_in : (number from length : ℕ) → sum_by publishes (flat_map (round number) (range_with_len from length)) ≡ length
published_in number from zero = refl
published_in number from (suc length) =
    let rest : ℕ = sum_by publishes (flat_map (round number) (range_with_len (from + 1) length)) in
    let here : 1 + rest ≡ suc length = omega (arith, published_in number (from + 1) length) in
    sum_by-append publishes (round number from) (flat_map (round number) (range_with_len (from + 1) length)) ∙ here

-- each round asks for four pages
asked_in : (number from length : ℕ) → sum_by asks (flat_map (round number) (range_with_len from length)) ≡ 4 * length
asked_in number from zero = refl
asked_in number from (suc length) =
    let rest : ℕ = sum_by asks (flat_map (round number) (range_with_len (from + 1) length)) in
    let here : 4 + rest ≡ 4 * suc length = omega (arith, asked_in number (from + 1) length) in
    sum_by-append asks (round number from) (flat_map (round number) (range_with_len (from + 1) length)) ∙ here

parts_of : (count : Message → ℕ) (pages parts after : List Message) → sum_by count ((pages ++ parts) ++ Publish ∷ after) ≡ sum_by count pages + (sum_by count parts + (count Publish + sum_by count after))
parts_of count pages parts after = omega (arith, sum_by-append count (pages ++ parts) (Publish ∷ after), sum_by-append count pages parts, sum_by-cons count Publish after)

-- the messages count what their publishing and their rounds do
total : (count : Message → ℕ) (number one many all : ℕ) → ((i : ℕ) → count (page_put i) ≡ 0) → ((i : ℕ) → count (first_part i) ≡ 0) → count Publish ≡ one
    → sum_by count (rounds number number) ≡ many → one + many ≡ all → sum_by count (messages number) ≡ all
total count number one many all pages parts once each is =
    let none : sum_by count (map page_put (range_with_len 0 number)) ≡ 0 = none_of count page_put pages 0 number in
    let no_part : sum_by count (map first_part (range_with_len 0 10)) ≡ 0 = none_of count first_part parts 0 10 in
    let sum : sum_by count (map page_put (range_with_len 0 number)) + (sum_by count (map first_part (range_with_len 0 10)) + (count Publish + sum_by count (rounds number number))) ≡ all = omega arith in
    parts_of count (map page_put (range_with_len 0 number)) (map first_part (range_with_len 0 10)) (rounds number number) ∙ sum

pub counted : IsCounted
counted = record {
  publishings = λ number. total publishes number 1 number (number + 1) (λ i. refl) (λ i. refl) refl (published_in number 0 number) (omega arith);
  requests = λ number. total asks number 0 (4 * number) (4 * number) (λ i. refl) (λ i. refl) refl (asked_in number 0 number) (omega arith);
}
