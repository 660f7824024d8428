-- States that grow: by nothing, by a step, by pieces, by a session, and one behind the other.
use Rattle.std.proofs.Common.{◌≡◌, ◌≤◌, ℕ, Bool, true, false, List, [], ◌∷◌, ◌++◌, length, refl, sym, ap, subst, ◌∙◌, append_assoc, append-nil, length-append, true≢false, arith}
use Rattle.std.specs.Prelude.{◌&&◌, is_none, not}
use Rattle.edges.proofs.Own.{front_both, front_same}
use Rattle.edges.specs.History.{IsFront}
use Rattle.out_buffer.specs.Writer.{Writer, has_committed, has_pieces}
use Rattle.page_meaning.specs.Growth.{Grows, IsOrdered, OrderGrows, session_of}
use Rattle.page_meaning.specs.Includes.{starts_session}
use Rattle.page_meaning.specs.Page.{Page}
use Rattle.page_meaning.specs.State.{State, in_writer, with_asked}
use Rattle.site_words.proofs.Items.{each_both, each_map, each_push}
use Rattle.site_words.specs.PageSteps.{Step}
use Rattle.site_words.specs.Trees.{Each}

-- the steps asked, and their order among the pieces
abbrev pub trace_of : State → List Step × List ℕ
trace_of s = (s.asked, s.order)

-- no step comes later
pub order_same : (s t : State) → t.order ≡ s.order → OrderGrows (length s.writer.pieces) s.order t.order
order_same s t e = ([], e ∙ sym (append-nil s.order), tt)

-- what comes behind no pieces
pub behind_none : (pieces : List (List ℕ)) → pieces ≡ [] → (later : List ℕ) → Each (λ count. length pieces ≤ count) later
behind_none pieces none [] = tt
behind_none pieces none (count ∷ later) =
    let free : length pieces ≡ 0 = ap length none in
    (omega (arith, free), behind_none pieces none later)

longer : (a b : List (List ℕ)) → IsFront a b → length a ≤ length b
longer a b front =
    let e = ap length front.1 in
    let sum = length-append a front.0 in
    omega (arith, e, sum)

order_both : (a b : List (List ℕ)) (old mid new : List ℕ) → IsFront a b → OrderGrows (length a) old mid → OrderGrows (length b) mid new → OrderGrows (length a) old new
order_both a b old mid new front g k =
    let more = longer a b front in (
      g.0 ++ k.0,
      k.1 ∙ (ap (λ l. l ++ k.0) g.1 ∙ append_assoc old g.0 k.0),
      each_both (λ count. length a ≤ count) g.0 k.0 g.2 (each_map (λ count. length b ≤ count) (λ count. length a ≤ count) k.0 (λ count less. omega (arith, less, more)) k.2),
    )

pub same : (s : State) → Grows s s
same s = record { asked = front_same s.asked; order = order_same s s refl; pieces = front_same s.writer.pieces; session = λ committed. refl }

-- what was committed stays so
committed_on : (a b : List (List ℕ)) → IsFront a b → has_pieces a ≡ true → has_pieces b ≡ true
committed_on [] b front committed = absurd (true≢false (sym committed))
committed_on (piece ∷ pieces) b front committed = ap has_pieces front.1

pub both : (s t u : State) → Grows s t → Grows t u → Grows s u
both s t u g k = record {
  asked = front_both s.asked t.asked u.asked g.asked k.asked;
  order = order_both s.writer.pieces t.writer.pieces s.order t.order u.order g.pieces g.order k.order;
  pieces = front_both s.writer.pieces t.writer.pieces u.writer.pieces g.pieces k.pieces;
  session = λ committed. k.session (committed_on s.writer.pieces t.writer.pieces g.pieces committed) ∙ g.session committed;
}

-- a change of neither steps nor pieces nor session
pub quiet : (s t : State) → trace_of t ≡ trace_of s → t.writer.pieces ≡ s.writer.pieces → session_of t ≡ session_of s → Grows s t
quiet s t trace pieces session = record {
  asked = ([], ap (λ p. p.0) trace ∙ sym (append-nil s.asked));
  order = order_same s t (ap (λ p. p.1) trace);
  pieces = ([], pieces ∙ sym (append-nil s.writer.pieces));
  session = λ committed. session;
}

-- a step was asked
pub asks : (step : Step) (s t : State) → trace_of t ≡ trace_of (with_asked step s) → t.writer.pieces ≡ s.writer.pieces → session_of t ≡ session_of s → Grows s t
asks step s t trace pieces session = record {
  asked = (step ∷ [], ap (λ p. p.0) trace);
  order = (length s.writer.pieces ∷ [], ap (λ p. p.1) trace, (omega arith, tt));
  pieces = ([], pieces ∙ sym (append-nil s.writer.pieces));
  session = λ committed. session;
}

-- nothing was committed
pub uncommitted : (pieces : List (List ℕ)) → has_pieces pieces ≡ false → pieces ≡ []
uncommitted [] e = refl
uncommitted (piece ∷ pieces) e = absurd (true≢false e)

-- steps were asked and a session came to be, where nothing was committed
pub starts : (s t : State) → has_committed s.writer ≡ false → IsFront s.asked t.asked → IsFront s.order t.order → t.writer.pieces ≡ s.writer.pieces → Grows s t
starts s t free asked order pieces = record {
  asked = asked;
  order = (order.0, order.1, behind_none s.writer.pieces (uncommitted s.writer.pieces free) order.0);
  pieces = ([], pieces ∙ sym (append-nil s.writer.pieces));
  session = λ committed. absurd (true≢false (sym committed ∙ free));
}

-- a page's run starts a session only where nothing was committed
pub uncommitted_start : (page : Page) (s : State) → starts_session page s ≡ true → has_committed s.writer ≡ false
uncommitted_start page s starts = go page.settings.session (is_none s.scopes.session) (has_committed s.writer) starts
  where
    go : (a b c : Bool) → (a && b && not c) ≡ true → c ≡ false
    go true true false e = refl
    go true true true e = absurd (true≢false (sym e))
    go true false c e = absurd (true≢false (sym e))
    go false b c e = absurd (true≢false (sym e))

-- pieces were committed
pub commits : (s : State) (w : Writer) → IsFront s.writer.pieces w.pieces → Grows s (in_writer w s)
commits s w pieces = record { asked = front_same s.asked; order = order_same s s refl; pieces = pieces; session = λ committed. refl }

-- an ordered state stays so under more pieces
pub ordered_on : (s t : State) → trace_of t ≡ trace_of s → IsFront s.writer.pieces t.writer.pieces → IsOrdered s → IsOrdered t
ordered_on s t trace front ordered =
    let more = longer s.writer.pieces t.writer.pieces front in (
      ap (λ p. length p.1) trace ∙ (ordered.0 ∙ sym (ap (λ p. length p.0) trace)),
      subst (λ order. Each (λ count. count ≤ length t.writer.pieces) order) (sym (ap (λ p. p.1) trace))
          (each_map (λ count. count ≤ length s.writer.pieces) (λ count. count ≤ length t.writer.pieces) s.order (λ count less. omega (arith, less, more)) ordered.1),
    )

-- and where a step is asked
pub ordered_asked : (step : Step) (s : State) → IsOrdered s → IsOrdered (with_asked step s)
ordered_asked step s ordered =
    let counts = length-append s.order (length s.writer.pieces ∷ []) in
    let steps = length-append s.asked (step ∷ []) in
    (omega (arith, counts, steps, ordered.0), each_push (λ count. count ≤ length s.writer.pieces) s.order (length s.writer.pieces) ordered.1 (omega arith))
