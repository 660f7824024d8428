-- What reading a request answers, by what the calls in it answered.
use Rattle.std.proofs.Common.{◌≡◌, ◌<◌, ◌≤◌, ◌+◌, inl, inr, ℕ, List, [], ◌∷◌, ◌++◌, length, take, drop, Option, Some, None, Err, refl, sym, ap, subst, ◌∙◌}
use Rattle.std.proofs.lemmas.List.{take-append-le}
use Rattle.httparse.specs.Grammar.{RequestHead}
use Rattle.pg_text.specs.declared.failure.Failure.{Failure}
use Rattle.pg_text.specs.declared.failure.Failure.TheVariants.{Fault, NoMemory}
use Rattle.http_in.specs.declared.fault.HttpFault.{HttpFault}
use Rattle.http_in.specs.declared.fault.HttpFault.TheVariants.{HeadTooLarge, CutOff, ReadFault}
use Rattle.http_in.specs.declared.fields.Field.{Field}
use Rattle.http_in.specs.declared.limits.TheConstants.{MAX_HEAD_BYTES}
use Rattle.http_in.specs.declared.request.Request.{Request}
use Rattle.http_in.specs.Faults.{IfFault}
use Rattle.http_in.specs.Fields.{fields_of}
use Rattle.http_in.specs.Head.{IsGoodHead, IsBadHead}
use Rattle.http_in.specs.HeadEnd.{head_len, skip_pairs, front_of}
use Rattle.http_in.specs.Reading.{Moves, Saw, Reads}
use Rattle.http_in.specs.Request.{request_of}
use Rattle.http_in.specs.Requests.{StandsFirst, IsUnfinished, IsCutOff}
use Rattle.http_in.specs.Stopping.{StopsHead, StopsBody}
use Rattle.http_in.proofs.GoodHeads.{fault_of_head}
use Rattle.http_in.proofs.HeadEnds.{front_grows}
use Rattle.http_in.proofs.Moving.{saw, moves_both}

-- where no head ends, the bytes are at an end or inside a head
unfinished_head : (bytes : List ℕ) → head_len (front_of bytes) ≡ None → length bytes < MAX_HEAD_BYTES → IsUnfinished bytes
unfinished_head bytes none short = go (skip_pairs bytes) refl
  where
    go : (rest : List ℕ) → skip_pairs bytes ≡ rest → IsUnfinished bytes
    go [] is = inl (record { ends = none; short = short; skipped = is })
    go (b ∷ rest) is = inr (inl (record { ends = none; short = short; begun = λ empty. (cc) }))

-- a failure while the head was read
pub head_failed : (T : Type 0) (failure : Failure HttpFault) (left later : Option (List ℕ)) (old new : List ℕ)
    → IfFault {A = T} (Err failure) (StopsHead later new) → Moves left later old new → Reads left later old new (Err failure)
head_failed T NoMemory left later old new stops moved = moved
head_failed T (Fault HeadTooLarge) left later old new stops moved = (moved, stops)
head_failed T (Fault CutOff) left later old new stops moved = (moved, inl stops.0, stops.1)
head_failed T (Fault ReadFault) left later old new stops moved = (moved, unfinished_head new stops.0 stops.1)
head_failed T (Fault fault) left later old new stops moved = absurd stops

-- a failure while the head was parsed
pub parse_failed : (T : Type 0) (failure : Failure HttpFault) (left later : Option (List ℕ)) (old new : List ℕ) (len : ℕ)
    → head_len (front_of new) ≡ Some len → IfFault {A = T} (Err failure) (IsBadHead (take len new)) → Moves left later old new
    → Reads left later old new (Err failure)
parse_failed T NoMemory left later old new len ends bad moved = moved
parse_failed T (Fault HeadTooLarge) left later old new len ends bad moved = absurd (fault_of_head _ _ bad)
parse_failed T (Fault CutOff) left later old new len ends bad moved = absurd (fault_of_head _ _ bad)
parse_failed T (Fault ReadFault) left later old new len ends bad moved = absurd (fault_of_head _ _ bad)
parse_failed T (Fault fault) left later old new len ends bad moved = (moved, record { len = len; ends = ends; bad = bad })

-- a head that was read stands there when more was read
head_later : (old more new : List ℕ) (len : ℕ) → new ≡ old ++ more → len ≤ length old → head_len (front_of old) ≡ Some len
    → (head_len (front_of new) ≡ Some len) × (take len new ≡ take len old)
head_later old more new len is within ends =
    (ap (λ bytes. head_len (front_of bytes)) is ∙ front_grows old more len ends, ap (take len) is ∙ take-append-le len old more within)

-- a body that isn't there whole
short_body : (old more new : List ℕ) (len : ℕ) (head : RequestHead) (size : ℕ) → new ≡ old ++ more → len ≤ length old → head_len (front_of old) ≡ Some len
    → IsGoodHead (take len old) head size → length new < len + size → IsCutOff new
short_body old more new len head size is within ends is_good short =
    let then_ = head_later old more new len is within ends in
    inr (record { len = len; head = head; size = size; ends = then_.0; is_good = subst (λ front. IsGoodHead front head size) (sym then_.1) is_good; short = short })

-- a failure while the body was read
pub body_failed : (T : Type 0) (failure : Failure HttpFault) (left mid later : Option (List ℕ)) (old between new : List ℕ) (len : ℕ) (head : RequestHead) (size : ℕ)
    → head_len (front_of between) ≡ Some len → len ≤ length between → IsGoodHead (take len between) head size
    → Moves left mid old between → IfFault {A = T} (Err failure) (StopsBody (len + size) later new) → Moves mid later between new
    → Reads left later old new (Err failure)
body_failed T NoMemory left mid later old between new len head size ends within is_good moved stops more = moves_both left mid later old between new moved more
body_failed T (Fault CutOff) left mid later old between new len head size ends within is_good moved stops more =
    (moves_both left mid later old between new moved more, short_body between more.piece new len head size more.grown within ends is_good stops.0, stops.1)
body_failed T (Fault ReadFault) left mid later old between new len head size ends within is_good moved stops more =
    (moves_both left mid later old between new moved more, inr (short_body between more.piece new len head size more.grown within ends is_good stops))
body_failed T (Fault fault) left mid later old between new len head size ends within is_good moved stops more = absurd stops

-- a request that was read whole
pub whole_request : (left mid later : Option (List ℕ)) (old between new : List ℕ) (len : ℕ) (head : RequestHead) (size : ℕ) (request : Request) (final : List ℕ)
    → head_len (front_of between) ≡ Some len → len ≤ length between → IsGoodHead (take len between) head size
    → Moves left mid old between → Moves mid later between new
    → len + size ≤ length new → request ≡ request_of head.method head.target (fields_of head) (take size (drop len new)) → final ≡ drop (len + size) new
    → Saw left later old (λ seen. StandsFirst seen request final)
whole_request left mid later old between new len head size request final ends within is_good moved more whole is_request is_final =
    let then_ = head_later between more.piece new len more.grown within ends in
    saw left later old new (λ seen. StandsFirst seen request final) (moves_both left mid later old between new moved more) (record {
      len = len;
      head = head;
      size = size;
      ends = then_.0;
      is_good = subst (λ front. IsGoodHead front head size) (sym then_.1) is_good;
      whole = whole;
      request_is = is_request;
      rest_is = is_final;
    })

-- a request whose parts are those of the head
pub same_request : (request : Request) (method target : List ℕ) (fields : List Field) (body : List ℕ) (head : RequestHead)
    → request ≡ request_of method target fields body → method ≡ head.method → target ≡ head.target → fields ≡ fields_of head
    → request ≡ request_of head.method head.target (fields_of head) body
same_request request method target fields body head is same_method same_target same_fields =
    is ∙ ap (λ m. request_of m target fields body) same_method ∙ ap (λ t. request_of head.method t fields body) same_target
    ∙ ap (λ f. request_of head.method head.target f body) same_fields
