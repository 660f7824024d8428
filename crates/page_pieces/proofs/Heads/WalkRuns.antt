-- The walk through a head is the reading byte by byte.
use Rattle.std.proofs.Common.{◌≡◌, ℕ, zero, suc, ◌+◌, ◌<◌, Bool, true, false, cond, eqb, Result, Ok, Err, List, [], ◌∷◌, length, drop, take, codes, refl, sym, ap, ◌∙◌, arith, one-add, length-append, lt-ltb}
use Rattle.std.specs.List.{prefix_len}
use Rattle.std.proofs.lemmas.Bool.{cond-false}
use Rattle.std.proofs.lemmas.Bool.Decides.{nat_tests}
use Rattle.page_pieces.specs.declared.head.HeadEnd.{HeadEnd}
use Rattle.page_pieces.specs.declared.head.HeadKind.{HeadKind}
use Rattle.page_pieces.specs.declared.head.Misread.{Misread}
use Rattle.page_pieces.specs.declared.head.HeadEnd.TheVariants as ends
use Rattle.page_pieces.specs.declared.head.HeadKind.TheVariants as kinds
use Rattle.page_pieces.specs.declared.head.Misread.TheVariants.{CutOff, Malformed}
use Rattle.page_pieces.specs.Names.{is_white, is_name_start, white_front, behind_white}
use Rattle.page_pieces.specs.Tags.{WrittenAttribute, attribute_bytes}
use Rattle.page_pieces.specs.ReadHead.{◌>>=◌, behind_mark, attribute_behind, attribute_at, end_read, Walk, attribute_before, ends_with, walk_on, walk_then, walk_within, walk_at}
use Rattle.page_pieces.proofs.AtFront.Marks.{begins_one, behind_two, behind_two_cut}
use Rattle.page_pieces.proofs.Heads.Attributes.{attribute_front}
use Rattle.page_pieces.proofs.Heads.Steps.{Head, head_of, State, Between, White, Closing, Percent, Slash, Attribute, InAttribute, Next, Go, Accept, Dead, name_step, attribute_step, closing_step, step, run_next, run}
use Rattle.page_pieces.proofs.Heads.Walks.{attribute_size}
use Rattle.page_pieces.proofs.Heads.Runs.{skip, attribute_run}

-- what closes a head, or else another reading
abbrev pub unless_malformed : Result (HeadEnd × List ℕ) Misread → Result (HeadEnd × List ℕ) Misread → Result (HeadEnd × List ℕ) Misread
unless_malformed (Ok found) other = Ok found
unless_malformed (Err CutOff) other = Err CutOff
unless_malformed (Err Malformed) other = other

-- a mark of two bytes closes a head, unless other bytes stand there
mark_run : (head : Head) (q : State) (end : HeadEnd) (m n b : ℕ) (bytes : List ℕ) (other : Next) → ((c : ℕ) → step head q c ≡ cond (eqb n c) (Accept end) Dead) → (eqb m b ≡ true → other ≡ Dead)
    → run_next (cond (eqb m b) (Go q) other) bytes (λ q. run head q bytes) ≡ unless_malformed (behind_mark (m ∷ n ∷ []) (b ∷ bytes) >>= (λ rest. Ok (end, rest))) (run_next other bytes (λ q. run head q bytes))
mark_run head q end m n b [] other then dead = go (eqb m b) ∙ sym (ap (λ r. unless_malformed (r >>= (λ rest. Ok (end, rest))) (run_next other [] (λ q. run head q []))) (behind_two_cut m n b))
  where
    go : (here : Bool) → run_next (cond here (Go q) other) [] (λ q. run head q []) ≡ unless_malformed (cond {A = Result (List ℕ) Misread} here (Err CutOff) (Err Malformed) >>= (λ rest. Ok (end, rest))) (run_next other [] (λ q. run head q []))
    go true = refl
    go false = refl
mark_run head q end m n b (c ∷ bytes) other then dead = go (eqb m b) refl ∙ sym (ap (λ r. unless_malformed (r >>= (λ rest. Ok (end, rest))) here) (behind_two m n b c bytes))
  where
    here : Result (HeadEnd × List ℕ) Misread
    here = run_next other (c ∷ bytes) (λ q. run head q (c ∷ bytes))

    second : (there : Bool) → other ≡ Dead → run_next (cond there (Accept end) Dead) bytes (λ q. run head q bytes) ≡ unless_malformed (cond there (Ok bytes) (Err Malformed) >>= (λ rest. Ok (end, rest))) (run_next other (c ∷ bytes) (λ q. run head q (c ∷ bytes)))
    second true is = refl
    second false is = ap (λ n. run_next n (c ∷ bytes) (λ q. run head q (c ∷ bytes))) (sym is)

    go : (first : Bool) → eqb m b ≡ first
        → run_next (cond first (Go q) other) (c ∷ bytes) (λ q. run head q (c ∷ bytes)) ≡ unless_malformed (cond first (cond (eqb n c) (Ok bytes) (Err Malformed)) (Err Malformed) >>= (λ rest. Ok (end, rest))) (run_next other (c ∷ bytes) (λ q. run head q (c ∷ bytes)))
    go true is = ap (λ n. run_next n bytes (λ q. run head q bytes)) (then c) ∙ second (eqb n c) (dead is)
    go false is = refl

-- what closes a head is read byte by byte
closes_run : (kind : HeadKind) (b : ℕ) (bytes : List ℕ) (other : Next) → (eqb 37 b ≡ true → other ≡ Dead) → (eqb 47 b ≡ true → other ≡ Dead)
    → run_next (closing_step (head_of kind) b other) bytes (λ q. run (head_of kind) q bytes) ≡ unless_malformed (end_read kind (b ∷ bytes)) (run_next other bytes (λ q. run (head_of kind) q bytes))
unfolding end_read
closes_run kinds.Directive b bytes other percent slash = mark_run (head_of kinds.Directive) Percent ends.Directive 37 62 b bytes other (λ c. refl) percent
closes_run kinds.Element b bytes other percent slash = go (eqb 62 b) ∙ sym (ap (λ t. unless_malformed (cond t (Ok (ends.Start, bytes)) (behind_mark (codes "/>") (b ∷ bytes) >>= (λ rest. Ok (ends.Empty, rest)))) behind) (begins_one 62 b bytes))
  where
    behind : Result (HeadEnd × List ℕ) Misread
    behind = run_next other bytes (λ q. run (head_of kinds.Element) q bytes)

    go : (here : Bool) → run_next (cond here (Accept ends.Start) (cond (eqb 47 b) (Go Slash) other)) bytes (λ q. run (head_of kinds.Element) q bytes)
        ≡ unless_malformed (cond here (Ok (ends.Start, bytes)) (behind_mark (codes "/>") (b ∷ bytes) >>= (λ rest. Ok (ends.Empty, rest)))) (run_next other bytes (λ q. run (head_of kinds.Element) q bytes))
    go true = refl
    go false = mark_run (head_of kinds.Element) Slash ends.Empty 47 62 b bytes other (λ c. refl) slash

percent_dead : (q : State) (b : ℕ) → eqb 37 b ≡ true → name_step q b ≡ Dead
percent_dead q b is = cond-false (is_name_start b) _ _ (grind (arith, nat_tests))

slash_dead : (q : State) (b : ℕ) → eqb 47 b ≡ true → name_step q b ≡ Dead
slash_dead q b is = cond-false (is_name_start b) _ _ (grind (arith, nat_tests))

nothing_closes : (kind : HeadKind) → end_read kind [] ≡ Err CutOff
unfolding end_read behind_mark
nothing_closes kinds.Directive = refl
nothing_closes kinds.Element = refl

head_attribute : (kind : HeadKind) (b : ℕ) → attribute_step (head_of kind) b ≡ name_step InAttribute b
head_attribute kinds.Directive b = refl
head_attribute kinds.Element b = refl

-- what closes the head, or else the name of an attribute
closing_run : (kind : HeadKind) (text : List ℕ) → run (head_of kind) Closing text ≡ unless_malformed (end_read kind text) (run (head_of kind) Attribute text)
closing_run kind [] = sym (ap (λ r. unless_malformed r (Err CutOff)) (nothing_closes kind))
closing_run kind (b ∷ bytes) =
    ap (λ n. run_next (closing_step (head_of kind) b n) bytes (λ q. run (head_of kind) q bytes)) (head_attribute kind b)
    ∙ closes_run kind b bytes (name_step InAttribute b) (percent_dead InAttribute b) (slash_dead InAttribute b)

some_white : (n : ℕ) → eqb (1 + n) 0 ≡ false
some_white n = grind (arith, nat_tests)

-- behind a name or a value: what closes the head, or else an attribute
between_run : (kind : HeadKind) (text : List ℕ) → run (head_of kind) Between text ≡ unless_malformed (end_read kind (behind_white text)) (attribute_at text >>= (λ found. run (head_of kind) Between found.1))
unfolding attribute_at
between_run kind [] = sym (ap (λ r. unless_malformed r (Err CutOff)) (nothing_closes kind))
between_run kind (b ∷ bytes) = go (is_white b) refl
  where
    behind : List ℕ
    behind = drop (prefix_len is_white bytes) bytes

    on : WrittenAttribute × List ℕ → Result (HeadEnd × List ℕ) Misread
    on found = run (head_of kind) Between found.1

    read : ℕ → Result (WrittenAttribute × List ℕ) Misread
    read n = cond (eqb n 0) (Err Malformed) (attribute_behind (take n (b ∷ bytes)) (drop n (b ∷ bytes)))

    white : run (head_of kind) White bytes ≡ unless_malformed (end_read kind (drop (1 + prefix_len is_white bytes) (b ∷ bytes))) (read (1 + prefix_len is_white bytes) >>= on)
    white =
        skip (head_of kind) White Closing is_white (λ b. refl) bytes
        ∙ closing_run kind behind
        ∙ ap (unless_malformed (end_read kind behind)) (attribute_run (head_of kind) (b ∷ take (prefix_len is_white bytes) bytes) behind)
        ∙ sym ((λ i. unless_malformed (end_read kind (drop (one-add (prefix_len is_white bytes) i) (b ∷ bytes))) (cond (some_white (prefix_len is_white bytes) i) (Err Malformed) (attribute_behind (take (one-add (prefix_len is_white bytes) i) (b ∷ bytes)) (drop (one-add (prefix_len is_white bytes) i) (b ∷ bytes))) >>= on)))

    go : (here : Bool) → is_white b ≡ here
        → run_next (cond here (Go White) (closing_step (head_of kind) b Dead)) bytes (λ q. run (head_of kind) q bytes)
        ≡ unless_malformed (end_read kind (drop (cond here (1 + prefix_len is_white bytes) 0) (b ∷ bytes))) (read (cond here (1 + prefix_len is_white bytes) 0) >>= on)
    go true is = white
    go false is = closes_run kind b bytes Dead (λ e. refl) (λ e. refl)

-- the walk through what follows the name of a head
walk_run : (most : ℕ) (kind : HeadKind) (text : List ℕ) → length text < most → run (head_of kind) Between text ≡ (walk_within most kind text).end
unfolding walk_within
walk_run zero kind text enough = absurd (omega arith)
walk_run (suc most) kind text enough = between_run kind text ∙ go (end_read kind (behind_white text)) (walk_within most kind) (walk_run most kind)
  where
    attribute : (r : Result (WrittenAttribute × List ℕ) Misread) → attribute_at text ≡ r → (more : List ℕ → Walk) → ((t : List ℕ) → length t < most → run (head_of kind) Between t ≡ (more t).end) → (r >>= (λ found. run (head_of kind) Between found.1)) ≡ (walk_on text r more).end
    attribute (Err fault) is more rec = refl
    attribute (Ok found) is more rec =
        let front = attribute_front text found is in
        let less : length found.1 < length text = omega (arith, ap length front.cut, length-append (attribute_bytes found.0) found.1, attribute_size found.0 front.well) in
        rec found.1 (omega arith) ∙ ap (λ b. (cond b (attribute_before found.0 (more found.1)) (ends_with (white_front text) (Err Malformed))).end) (sym (lt-ltb (length found.1) (length text) less))

    go : (r : Result (HeadEnd × List ℕ) Misread) → (more : List ℕ → Walk) → ((t : List ℕ) → length t < most → run (head_of kind) Between t ≡ (more t).end) → unless_malformed r (attribute_at text >>= (λ found. run (head_of kind) Between found.1)) ≡ (walk_then text r more).end
    go (Ok found) more rec = refl
    go (Err CutOff) more rec = refl
    go (Err Malformed) more rec = attribute (attribute_at text) refl more rec

pub walk_is_run : (kind : HeadKind) (text : List ℕ) → run (head_of kind) Between text ≡ (walk_at kind text).end
unfolding walk_at
walk_is_run kind text = walk_run (1 + length text) kind text (omega arith)
