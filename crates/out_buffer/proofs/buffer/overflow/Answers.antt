use Rattle.std.proofs.Common.{rules, ◌≡◌, ◌<◌, ◌≤◌, ◌+◌, ◌*◌, ◌++◌, ◌∷◌, [], ℕ, List, length, take, drop, subst, ap, ◌∙◌, arith, append_assoc, length-append}
use Rattle.std.proofs.lemmas.List.{length-drop}
use Rattle.out_buffer.specs.ReadStream.{HasBegun}
use Rattle.out_buffer.specs.Writer.{front_pieces, pieces_over}
use Rattle.out_buffer.proofs.PieceLemmas.{all_pieces, first_left, first_piece, has_front, left_more, piece_more, round_more}
use Rattle.out_buffer.proofs.StreamLemmas.{streams}
use Rattle.out_buffer.specs.declared.stream.Stream.{Stream}
use Rattle.out_buffer.proofs.buffer.overflow.Goals as goal

pub loop-rest-init : goal.loop-rest-init
loop-rest-init g c =
    let buffer : List ℕ = c.args.buffer.now.items in
    let bytes : List ℕ = c.args.bytes.now in
    let size : ℕ = c.args.size in
    let len : c.len-2.result ≡ length buffer = search rules in
    let piece : c.deref.result.now ≡ take size (buffer ++ bytes)
    = rw (c.deref.ensures.value, c.in-Ok.ensures.items, c.in_ok-try_reserve.ensures.items, c.split_at.ensures.front, len) (first_piece buffer bytes size c.requires.within) in
    record {
      count = 1;
      within = omega (arith, length-append buffer bytes, c.requires.over);
      left = c.split_at.ensures.back ∙ rw len (first_left buffer bytes size c.requires.within);
      some = omega arith;
      empty = c.clear.ensures.items;
      room = omega (arith, c.clear.ensures.capacity, c.in-Ok.ensures.capacity, c.in_ok-try_reserve.ensures.ok, c.in_ok-try_reserve.ensures.len, c.len.ensures);
      same = c.send.ensures.same ∙ ap (λ (s : Stream). record s { failed = c.send.new.self.failed }) c.in_ok-begin.ensures.same;
      sent = λ start before pieces was.
          rw piece at (c.send.ensures.sent start before pieces (c.in_ok-begin.ensures.sent start before pieces was));
      later = omega (arith, c.in_ok-begin.ensures.later, c.send.ensures.later);
    }

pub loop-rest-preserved : goal.loop-rest-preserved
loop-rest-preserved g c =
    let total : List ℕ = c.args.buffer.now.items ++ c.args.bytes.now in
    let size : ℕ = c.args.size in
    let l = c.loop-rest in
    let count : ℕ = l.invariant.count in
    let rest : List ℕ = l.rest.now in
    let long : size < length rest = search rules in
    let left : rest ≡ drop (count * size) total = l.invariant.left in
    let piece : c.split_at-in-loop-rest.result.0.now ≡ take size (drop (count * size) total) = c.split_at-in-loop-rest.ensures.front ∙ ap (λ (r : List ℕ). take size r) left in
    record {
      count = count + 1;
      within = omega (arith, round_more count size, ap (λ (r : List ℕ). length r) left, length-drop (count * size) total);
      left = c.split_at-in-loop-rest.ensures.back ∙ ap (λ (r : List ℕ). drop size r) left ∙ left_more count size total;
      some = omega arith;
      empty = l.invariant.empty;
      room = l.invariant.room;
      same = c.send-in-loop-rest.ensures.same ∙ ap (λ (s : Stream). record s { failed = c.send-in-loop-rest.new.self.failed }) l.invariant.same;
      sent = λ start before pieces was.
          let so_far = c.send-in-loop-rest.ensures.sent start before (pieces ++ front_pieces count size total) (l.invariant.sent start before pieces was) in
          subst (λ (all : List (List ℕ)). HasBegun start before c.send-in-loop-rest.new.self (g.K.Sink.taken c.send-in-loop-rest.new.sink) (g.K.Sink.faults c.send-in-loop-rest.new.sink) all)
          (append_assoc pieces (front_pieces count size total) (c.split_at-in-loop-rest.result.0.now ∷ [])
          ∙ ap (λ (p : List ℕ). pieces ++ (front_pieces count size total ++ p ∷ [])) piece ∙ ap (λ (ps : List (List ℕ)). pieces ++ ps) (piece_more count size total))
          so_far;
      later = omega (arith, l.invariant.later, c.send-in-loop-rest.ensures.later);
    }

pub returns-clause-ok : goal.returns-clause-ok
returns-clause-ok g c =
    let total : List ℕ = c.args.buffer.now.items ++ c.args.bytes.now in
    let size : ℕ = c.args.size in
    let l = c.loop-rest in
    let count : ℕ = l.invariant.count in
    let short : length l.rest.now ≤ size = search rules in
    let all : count ≡ pieces_over size (length total) = all_pieces count size (length total) l.invariant.within (omega (arith, ap (λ (r : List ℕ). length r) l.invariant.left, length-drop (count * size) total)) in
    c.in-Ok-extend_from_slice.ensures.items ∙ ap (λ (b : List ℕ). b ++ l.rest.now) l.invariant.empty ∙ l.invariant.left ∙ ap (λ (n : ℕ). drop (n * size) total) all

pub returns-clause-sent : goal.returns-clause-sent
returns-clause-sent g c = λ start before pieces was.
    let total : List ℕ = c.args.buffer.now.items ++ c.args.bytes.now in
    let size : ℕ = c.args.size in
    let l = c.loop-rest in
    let count : ℕ = l.invariant.count in
    let short : length l.rest.now ≤ size = search rules in
    let all : count ≡ pieces_over size (length total) = all_pieces count size (length total) l.invariant.within (omega (arith, ap (λ (r : List ℕ). length r) l.invariant.left, length-drop (count * size) total)) in
    streams start before l.stream (g.K.Sink.taken l.sink) (g.K.Sink.faults l.sink) (pieces ++ front_pieces (pieces_over size (length total)) size total)
    (rw (← all) (has_front pieces count size total l.invariant.some))
    (rw (← all) (l.invariant.sent start before pieces was))
