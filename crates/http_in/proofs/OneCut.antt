-- Bytes are cut into requests in one way.
use Rattle.std.proofs.Common.{◌≡◌, ◌≢◌, ◌≤◌, ◌<◌, ◌+◌, ◌⊎◌, true, false, cond, inl, inr, ℕ, List, [], ◌∷◌, length, take, drop, Option, Some, None, refl, sym, ap, subst, ◌∙◌, arith}
use Rattle.std.specs.Prelude.{nat_eq, nat_le}
use Rattle.std.proofs.lemmas.Bool.Decides.{nat_tests}
use Rattle.httparse.specs.Grammar.{RequestHead}
use Rattle.http_in.specs.declared.fault.HttpFault.{HttpFault}
use Rattle.http_in.specs.declared.fault.HttpFault.TheVariants as http
use Rattle.http_in.specs.declared.limits.TheConstants.{MAX_HEAD_BYTES}
use Rattle.http_in.specs.declared.request.Request.{Request}
use Rattle.http_in.specs.Fields.{fields_of}
use Rattle.http_in.specs.Head.{IsGoodHead, IsBadHead}
use Rattle.http_in.specs.HeadEnd.{head_len, front_of, skip_pairs}
use Rattle.http_in.specs.Law.{HasOneCut}
use Rattle.http_in.specs.Request.{request_of}
use Rattle.http_in.specs.Requests.{StandsFirst, StopsAt, Stop, Ended, Full, Faulted, Front, EndsInBody, HasBadHead}
use Rattle.http_in.proofs.GoodHeads.{one_head, one_size, good_not_bad, one_fault}

-- two answers with one value
some_same : (n m : ℕ) → ◌≡◌ {A = Option ℕ} (Some n) (Some m) → n ≡ m
some_same n m e = cc

-- the head and the size are those of the bytes
one_start : (bytes : List ℕ) (len len' : ℕ) (h k : RequestHead) (n m : ℕ) → head_len (front_of bytes) ≡ Some len → head_len (front_of bytes) ≡ Some len'
    → IsGoodHead (take len bytes) h n → IsGoodHead (take len' bytes) k m → (len ≡ len') × (h ≡ k) × (n ≡ m)
one_start bytes len len' h k n m ends ends' is also =
    let same = some_same len len' (sym ends ∙ ends') in
    let good : IsGoodHead (take len bytes) k m = subst (λ l. IsGoodHead (take l bytes) k m) (sym same) also in
    (same, one_head (take len bytes) h k is.is_head good.is_head, one_size (take len bytes) h k n m is good)

-- the request that a head and so many bytes behind it make
abbrev request_at : List ℕ → ℕ → RequestHead → ℕ → Request
request_at bytes len head size = request_of head.method head.target (fields_of head) (take size (drop len bytes))

-- one request stands first, and one rest comes after it
pub one_first : (bytes : List ℕ) (request other : Request) (rest after : List ℕ) → StandsFirst bytes request rest → StandsFirst bytes other after → (request ≡ other) × (rest ≡ after)
one_first bytes request other rest after a b =
    let same = one_start bytes a.len b.len a.head b.head a.size b.size a.ends b.ends a.is_good b.is_good in (
      a.request_is ∙ ap (λ h. request_at bytes a.len h a.size) same.1 ∙ ap (λ n. request_at bytes a.len b.head n) same.2 ∙ ap (λ l. request_at bytes l b.head b.size) same.0 ∙ sym b.request_is,
      a.rest_is ∙ ap (λ n. drop n bytes) (let e : a.len + a.size ≡ b.len + b.size = omega (arith, same.0, same.2) in e) ∙ sym b.rest_is,
    )

-- what stops where no head ends
abbrev bare_stop : List ℕ → Stop
bare_stop bytes = cond (nat_le MAX_HEAD_BYTES (length bytes)) (Faulted http.HeadTooLarge) (cond (nat_eq (length (skip_pairs bytes)) 0) Ended (Faulted http.CutOff))

is_long : (n : ℕ) → MAX_HEAD_BYTES ≤ n → nat_le MAX_HEAD_BYTES n ≡ true
is_long n long = grind (arith, nat_tests)

is_short : (n : ℕ) → n < MAX_HEAD_BYTES → nat_le MAX_HEAD_BYTES n ≡ false
is_short n short = grind (arith, nat_tests)

is_empty : (bytes : List ℕ) → bytes ≡ [] → nat_eq (length bytes) 0 ≡ true
is_empty bytes empty = rw empty refl

is_begun : (bytes : List ℕ) → bytes ≢ [] → nat_eq (length bytes) 0 ≡ false
is_begun [] begun = absurd (begun refl)
is_begun (b ∷ bytes) begun = grind (arith, nat_tests)

-- how the requests of the bytes stop: no head ends, a head is bad, or a body is short
abbrev Stops : List ℕ → Stop → Type 0
Stops bytes stop =
    ((head_len (front_of bytes) ≡ None) × (stop ≡ bare_stop bytes))
    ⊎ (((fault : HttpFault) × HasBadHead bytes fault × (stop ≡ Faulted fault)) ⊎ (EndsInBody bytes × (stop ≡ Faulted http.CutOff)))

stops : (bytes : List ℕ) (stop : Stop) → StopsAt stop bytes → stop ≢ Full → Stops bytes stop
stops bytes Ended a f = inl (a.ends, rw (is_short (length bytes) a.short, is_empty (skip_pairs bytes) a.skipped) refl)
stops bytes Full a f = absurd (f refl)
stops bytes (Faulted http.HeadTooLarge) a f = inl (a.ends, rw (is_long (length bytes) a.long) refl)
stops bytes (Faulted http.CutOff) (inl a) f = inl (a.ends, rw (is_short (length bytes) a.short, is_begun (skip_pairs bytes) a.begun) refl)
stops bytes (Faulted http.CutOff) (inr a) f = inr (inr (a, refl))
stops bytes (Faulted http.ReadFault) a f = absurd a
stops bytes (Faulted fault) a f = inr (inl (fault, a, refl))

no_end : (bytes : List ℕ) (len : ℕ) → head_len (front_of bytes) ≡ None → head_len (front_of bytes) ≡ Some len → ⊥
no_end bytes len none some = let e = sym none ∙ some in cc

-- where a head is good, it isn't bad
good_there : (bytes : List ℕ) (len : ℕ) (head : RequestHead) (size : ℕ) (fault : HttpFault) → head_len (front_of bytes) ≡ Some len → IsGoodHead (take len bytes) head size
    → HasBadHead bytes fault → ⊥
good_there bytes len head size fault ends good bad =
    good_not_bad (take bad.len bytes) head size fault (subst (λ l. IsGoodHead (take l bytes) head size) (some_same len bad.len (sym ends ∙ bad.ends)) good) bad.bad

one_of : (bytes : List ℕ) (stop other : Stop) → Stops bytes stop → Stops bytes other → stop ≡ other
one_of bytes stop other (inl a) (inl b) = a.1 ∙ sym b.1
one_of bytes stop other (inl a) (inr (inl b)) = absurd (no_end bytes b.1.len a.0 b.1.ends)
one_of bytes stop other (inl a) (inr (inr b)) = absurd (no_end bytes b.0.len a.0 b.0.ends)
one_of bytes stop other (inr (inl a)) (inl b) = absurd (no_end bytes a.1.len b.0 a.1.ends)
one_of bytes stop other (inr (inl a)) (inr (inl b)) =
    let same = some_same a.1.len b.1.len (sym a.1.ends ∙ b.1.ends) in
    let fault : a.0 ≡ b.0 = one_fault (take a.1.len bytes) a.0 b.0 a.1.bad (subst (λ l. IsBadHead (take l bytes) b.0) (sym same) b.1.bad) in
    a.2 ∙ ap Faulted fault ∙ sym b.2
one_of bytes stop other (inr (inl a)) (inr (inr b)) = absurd (good_there bytes b.0.len b.0.head b.0.size a.0 b.0.ends b.0.is_good a.1)
one_of bytes stop other (inr (inr a)) (inl b) = absurd (no_end bytes a.0.len b.0 a.0.ends)
one_of bytes stop other (inr (inr a)) (inr (inl b)) = absurd (good_there bytes a.0.len a.0.head a.0.size b.0 a.0.ends a.0.is_good b.1)
one_of bytes stop other (inr (inr a)) (inr (inr b)) = a.1 ∙ sym b.1

-- two stops at the same bytes are one
pub one_stop : (bytes : List ℕ) (stop other : Stop) → StopsAt stop bytes → StopsAt other bytes → stop ≢ Full → other ≢ Full → stop ≡ other
one_stop bytes stop other a b f g = one_of bytes stop other (stops bytes stop a f) (stops bytes other b g)

-- where a request stands, nothing stops
pub first_goes_on : (bytes : List ℕ) (request : Request) (rest : List ℕ) (stop : Stop) → StandsFirst bytes request rest → StopsAt stop bytes → stop ≢ Full → ⊥
first_goes_on bytes request rest stop stands at not_full = go (stops bytes stop at not_full)
  where
    go : Stops bytes stop → ⊥
    go (inl a) = no_end bytes stands.len a.0 stands.ends
    go (inr (inl a)) = good_there bytes stands.len stands.head stands.size a.0 stands.ends stands.is_good a.1
    go (inr (inr a)) =
        let same = one_start bytes stands.len a.0.len stands.head a.0.head stands.size a.0.size stands.ends a.0.ends stands.is_good a.0.is_good in
        absurd (omega (arith, same.0, same.2, stands.whole, a.0.short))

-- two cuts are the same from the first request on
one_front : (bytes : List ℕ) (requests others : List Request) (stop other : Stop) (rest after : List ℕ)
    → Front bytes requests rest → StopsAt stop rest → Front bytes others after → StopsAt other after → stop ≢ Full → other ≢ Full
    → (requests ≡ others) × (stop ≡ other)
one_front bytes [] [] stop other rest after a at b there f g = (refl, one_stop bytes stop other (subst (StopsAt stop) a at) (subst (StopsAt other) b there) f g)
one_front bytes [] (q ∷ others) stop other rest after a at b there f g = absurd (first_goes_on bytes q b.0 stop b.1 (subst (StopsAt stop) a at) f)
one_front bytes (r ∷ requests) [] stop other rest after a at b there f g = absurd (first_goes_on bytes r a.0 other a.1 (subst (StopsAt other) b there) g)
one_front bytes (r ∷ requests) (q ∷ others) stop other rest after a at b there f g =
    let first = one_first bytes r q a.0 b.0 a.1 b.1 in
    let further = one_front a.0 requests others stop other rest after a.2 at (subst (λ text. Front text others after) (sym first.1) b.2) there f g in
    (ap (λ x. x ∷ requests) first.0 ∙ ap (λ xs. q ∷ xs) further.0, further.1)

-- two cuts of the same bytes are the same
pub one_cut : HasOneCut
one_cut bytes requests others stop other a b f g = one_front bytes requests others stop other a.rest b.rest a.front a.stops b.front b.stops f g
