-- The bytes of one message or one round more.
use Rattle.std.proofs.Common.{◌≡◌, ℕ, zero, suc, ◌+◌, ◌%◌, List, [], ◌∷◌, ◌++◌, map, refl, ap, sym, ◌∙◌, append_assoc, append-nil, add-one, arith}
use Rattle.std.specs.Prelude.{flat_map}
use Rattle.std.specs.List.{range_with_len}
use Rattle.std.proofs.lemmas.Grind.{flat_map-append}
use Rattle.std.proofs.lemmas.List.FromFn.{map-range_with_len_more}
use Rattle.load_gen.specs.declared.message.Message.{Message}
use Rattle.load_gen.specs.declared.message.Message.TheVariants.{Publish}
use Rattle.load_gen.specs.Messages.{asked, message_text, part_put, publish_text, sent, round, rounds}

-- one more of a list of messages
pub sent_one_more : (f : ℕ → Message) (i : ℕ) → sent (map f (range_with_len 0 (i + 1))) ≡ sent (map f (range_with_len 0 i)) ++ message_text (f i)
sent_one_more f i =
    ap sent (map-range_with_len_more f 0 i i (omega arith))
    ∙ (flat_map-append message_text (map f (range_with_len 0 i)) (f i ∷ []) ∙ ap (λ l. sent (map f (range_with_len 0 i)) ++ l) (append-nil (message_text (f i))))

numbers_from : (a n j : ℕ) → a + n ≡ j → range_with_len a (suc n) ≡ range_with_len a n ++ j ∷ []
numbers_from a zero j is = let same : a ≡ j = omega arith in ap (λ k. k ∷ []) same
numbers_from a (suc n) j is = ap (λ l. a ∷ l) (numbers_from (a + 1) n j (omega arith))

-- the numbers up to one more
numbers_more : (i : ℕ) → range_with_len 0 (i + 1) ≡ range_with_len 0 i ++ i ∷ []
numbers_more i = rw add-one (numbers_from 0 i i (omega arith))

-- one round more
pub sent_round_more : (number count : ℕ) → sent (rounds number (count + 1)) ≡ sent (rounds number count) ++ sent (round number count)
sent_round_more number count =
    ap (λ l. sent (flat_map (round number) l)) (numbers_more count)
    ∙ (ap sent (flat_map-append (round number) (range_with_len 0 count) (count ∷ []))
    ∙ (flat_map-append message_text (rounds number count) (round number count ++ [])
    ∙ ap (λ l. sent (rounds number count) ++ sent l) (append-nil (round number count))))

-- a round, message by message
pub sent_round : (number change : ℕ) → sent (round number change) ≡ (message_text (part_put (change % 10) (change + 1)) ++ publish_text) ++ sent (map (asked number change) (range_with_len 0 4))
sent_round number change = sym (append_assoc (message_text (part_put (change % 10) (change + 1))) publish_text (sent (map (asked number change) (range_with_len 0 4))))

-- all messages, part by part
pub sent_all : (pages parts after : List Message) → sent ((pages ++ parts) ++ Publish ∷ after) ≡ ((sent pages ++ sent parts) ++ publish_text) ++ sent after
sent_all pages parts after =
    flat_map-append message_text (pages ++ parts) (Publish ∷ after)
    ∙ (ap (λ l. l ++ (publish_text ++ sent after)) (flat_map-append message_text pages parts) ∙ sym (append_assoc (sent pages ++ sent parts) publish_text (sent after)))

-- what is added behind what was added so far
pub grown : (old new begun more sofar next : List ℕ) → new ≡ old ++ more → old ≡ begun ++ sofar → next ≡ sofar ++ more → new ≡ begun ++ next
grown old new begun more sofar next added was is = added ∙ (ap (λ l. l ++ more) was ∙ (append_assoc begun sofar more ∙ ap (λ l. begun ++ l) (sym is)))
