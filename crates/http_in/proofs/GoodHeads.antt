-- Bytes are one head, good or bad by one fault.
use Rattle.std.proofs.Common.{◌≡◌, ℕ, Bool, true, false, cond, inl, inr, List, [], Option, Some, None, Result, Ok, Err, sym, ap, subst, ◌∙◌}
use Rattle.std.specs.Prelude.{◌||◌, ◌==◌, not, nat_eq, nat_lt, codes, length}
use Rattle.std.specs.List.{starts_with}
use Rattle.httparse.specs.Grammar.{RequestHead}
use Rattle.httparse.proofs.GrammarLemmas.{request_unique}
use Rattle.http_in.specs.declared.fault.HttpFault.{HttpFault}
use Rattle.http_in.specs.declared.fault.HttpFault.TheVariants as http
use Rattle.http_in.specs.declared.fields.Field.{Field}
use Rattle.http_in.specs.declared.limits.TheConstants.{MAX_BODY_BYTES}
use Rattle.http_in.specs.Fields.{fields_of, values_of}
use Rattle.http_in.specs.Length.{size_of}
use Rattle.http_in.specs.Head.{IsHead, IsGoodHead, IsBadHead, size_after, within_limit}

-- bytes are one head
pub one_head : (bytes : List ℕ) (head other : RequestHead) → IsHead bytes head → IsHead bytes other → head ≡ other
one_head bytes head other is also = (request_unique bytes head other [] [] is.reads also.reads).0

-- two sizes after one head, or two faults of it, are the same
one_result : (head other : RequestHead) (r q : Result ℕ HttpFault) → head ≡ other → size_after head ≡ r → size_after other ≡ q → r ≡ q
one_result head other r q same is also = sym is ∙ ap size_after same ∙ also

-- a good head has one size
pub one_size : (bytes : List ℕ) (head other : RequestHead) (n m : ℕ) → IsGoodHead bytes head n → IsGoodHead bytes other m → n ≡ m
one_size bytes head other n m is also =
    let same = one_result head other (Ok n) (Ok m) (one_head bytes head other is.is_head also.is_head) is.size_is also.size_is in
    cc

-- a good head isn't bad
pub good_not_bad : (bytes : List ℕ) (head : RequestHead) (size : ℕ) (fault : HttpFault) → IsGoodHead bytes head size → IsBadHead bytes fault → ⊥
good_not_bad bytes head size fault good (inl none) = none.0 head good.is_head
good_not_bad bytes head size fault good (inr bad) =
    let same = one_result head bad.0 (Ok size) (Err fault) (one_head bytes head bad.0 good.is_head bad.1) good.size_is bad.2 in
    cc

-- a bad head has one fault
pub one_fault : (bytes : List ℕ) (fault other : HttpFault) → IsBadHead bytes fault → IsBadHead bytes other → fault ≡ other
one_fault bytes fault other (inl none) (inl also) = none.1 ∙ sym also.1
one_fault bytes fault other (inl none) (inr bad) = absurd (none.0 bad.0 bad.1)
one_fault bytes fault other (inr bad) (inl none) = absurd (none.0 bad.0 bad.1)
one_fault bytes fault other (inr bad) (inr also) =
    let same = one_result bad.0 also.0 (Err fault) (Err other) (one_head bytes bad.0 also.0 bad.1 also.1) bad.2 also.2 in
    cc

-- the fault may be one of a head that stands there whole
abbrev pub IsOfHead : HttpFault → Type 0
IsOfHead http.HeadTooLarge = ⊥
IsOfHead http.CutOff = ⊥
IsOfHead http.ReadFault = ⊥
IsOfHead fault = Unit {0}

told : (given fault : HttpFault) → IsOfHead given → ◌≡◌ {A = Result ℕ HttpFault} (Err given) (Err fault) → IsOfHead fault
told given fault of_head is = let same : given ≡ fault = cc in subst IsOfHead same of_head

limited : (size : Option ℕ) (fault : HttpFault) → within_limit size ≡ Err fault → IsOfHead fault
limited None fault is = told http.BadLength fault tt is
limited (Some size) fault is = go (nat_lt MAX_BODY_BYTES size) is
  where
    go : (large : Bool) → cond large (Err http.BodyTooLarge) (Ok size) ≡ Err fault → IsOfHead fault
    go true is = told http.BodyTooLarge fault tt is
    go false is = absurd (cc)

tested : (old astray coded : Bool) (size : Option ℕ) (fault : HttpFault)
    → cond old (Err http.WrongVersion) (cond astray (Err http.BadHead) (cond coded (Err http.ChunkedRequest) (within_limit size))) ≡ Err fault → IsOfHead fault
tested true astray coded size fault is = told http.WrongVersion fault tt is
tested false true coded size fault is = told http.BadHead fault tt is
tested false false true size fault is = told http.ChunkedRequest fault tt is
tested false false false size fault is = limited size fault is

-- the fault of a bad head is such a fault
pub fault_of_head : (bytes : List ℕ) (fault : HttpFault) → IsBadHead bytes fault → IsOfHead fault
fault_of_head bytes fault (inl none) = subst IsOfHead (sym none.1) tt
fault_of_head bytes fault (inr bad) =
    let fields : List Field = fields_of bad.0 in
    tested (bad.0.minor == 0) (not (starts_with nat_eq bad.0.target (codes "/")) || not (length (values_of (codes "host") fields) == 1))
    (not (length (values_of (codes "transfer-encoding") fields) == 0)) (size_of (values_of (codes "content-length") fields)) fault bad.2
