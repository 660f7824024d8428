-- What stands at the front of bytes, and how it stays there where more bytes follow.
use Rattle.std.proofs.Common.{◌≤◌, ◌+◌, ℕ, List, [], ◌∷◌, ◌++◌, length, take, drop, refl, sym, ap, subst, ◌∙◌, arith, length-append}
use Rattle.std.proofs.lemmas.List.{take-append-le, drop-append-le, length-drop}
use Rattle.http_in.specs.declared.request.Request.{Request}
use Rattle.http_in.specs.declared.fault.HttpFault.{HttpFault}
use Rattle.http_in.specs.Fields.{fields_of}
use Rattle.http_in.specs.Head.{IsGoodHead, IsBadHead}
use Rattle.http_in.specs.Request.{request_of}
use Rattle.http_in.specs.HeadEnd.{head_len}
use Rattle.http_in.specs.Requests.{StandsFirst, HasNoHead, HasBadHead, Front}
use Rattle.http_in.proofs.HeadEnds.{front_grows, front_full, head_fits}

-- a request that stands first does so too where more bytes follow
pub stands_grows : (bytes more : List ℕ) (request : Request) (rest : List ℕ) → StandsFirst bytes request rest → StandsFirst (bytes ++ more) request (rest ++ more)
stands_grows bytes more request rest stands =
    let within : stands.len ≤ length bytes = omega (arith, stands.whole) in
    let front = take-append-le stands.len bytes more within in
    let cut = drop-append-le stands.len bytes more within in
    let body = ap (take stands.size) cut ∙ take-append-le stands.size (drop stands.len bytes) more (omega (arith, length-drop stands.len bytes, stands.whole)) in
    record {
      len = stands.len;
      head = stands.head;
      size = stands.size;
      ends = front_grows bytes more stands.len stands.ends;
      is_good = subst (λ front. IsGoodHead front stands.head stands.size) (sym front) stands.is_good;
      whole = omega (arith, length-append bytes more, stands.whole);
      request_is = stands.request_is ∙ ap (request_of stands.head.method stands.head.target (fields_of stands.head)) (sym body);
      rest_is = ap (λ after. after ++ more) stands.rest_is ∙ sym (drop-append-le (stands.len + stands.size) bytes more stands.whole);
    }

-- the same of several requests
pub front_of_requests_grows : (requests : List Request) (bytes more rest : List ℕ) → Front bytes requests rest → Front (bytes ++ more) requests (rest ++ more)
front_of_requests_grows [] bytes more rest front = ap (λ all. all ++ more) front
front_of_requests_grows (request ∷ requests) bytes more rest front =
    (front.0 ++ more, stands_grows bytes more request front.0 front.1, front_of_requests_grows requests front.0 more rest front.2)

-- one request more, after several
pub front_more : (requests : List Request) (bytes rest after : List ℕ) (request : Request) → Front bytes requests rest → StandsFirst rest request after → Front bytes (requests ++ request ∷ []) after
front_more [] bytes rest after request front stands = (after, subst (λ all. StandsFirst all request after) front stands, refl)
front_more (first ∷ requests) bytes rest after request front stands =
    (front.0, front.1, front_more requests front.0 rest after request front.2 stands)

-- 16,384 bytes that hold no end of a head hold none where more bytes follow
pub no_head_grows : (bytes more : List ℕ) → HasNoHead bytes → HasNoHead (bytes ++ more)
no_head_grows bytes more has = record {
  ends = ap head_len (front_full bytes more has.long) ∙ has.ends;
  long = omega (arith, length-append bytes more, has.long);
}

-- a bad head is one too where more bytes follow
pub bad_head_grows : (bytes more : List ℕ) (fault : HttpFault) → HasBadHead bytes fault → HasBadHead (bytes ++ more) fault
bad_head_grows bytes more fault has =
    let front = take-append-le has.len bytes more (head_fits bytes has.len has.ends) in
    record {
      len = has.len;
      ends = front_grows bytes more has.len has.ends;
      bad = subst (λ front. IsBadHead front fault) (sym front) has.bad;
    }
