-- Where requests determine their exchanges, the bytes have one conversation.
use Rattle.std.proofs.Common.{◌≡◌, ◌+◌, ℕ, Bool, true, false, List, [], ◌∷◌, map, refl, sym, ap, subst, ◌∙◌}
use Rattle.http_in.specs.Requests.{Stop, Front, StopsAt}
use Rattle.http_in.proofs.OneCut.{one_first, first_goes_on, one_stop}
use Rattle.conversation.specs.Exchange.{Exchange, request_in}
use Rattle.conversation.specs.Conversation.{closes, stops_after, EndsAt, Walked}

-- from one state a request has one exchange, which leaves one state
abbrev pub IsDetermined : {W : Type 0} → (Bool → W → Exchange → W → Type 0) → Type 0
IsDetermined {W = W} serves =
    (close : Bool) (old now other : W) (e f : Exchange) → serves close old e now → serves close old f other → e.request ≡ f.request → (e ≡ f) × (now ≡ other)

-- two walks over the bytes that begin after as many requests, from one state
pub one_walk : {W : Type 0} (serves : Bool → W → Exchange → W → Type 0) → IsDetermined serves
    → (bytes : List ℕ) (number : ℕ) (es fs : List Exchange) (stop other : Stop) (rest after_them : List ℕ) (start a b : W)
    → Front bytes (map request_in es) rest → StopsAt stop rest → EndsAt stop number es → Walked serves number start es a
    → Front bytes (map request_in fs) after_them → StopsAt other after_them → EndsAt other number fs → Walked serves number start fs b
    → (es ≡ fs) × (stop ≡ other) × (a ≡ b)
one_walk serves is bytes number [] [] stop other rest after_them start a b front at ends walked behind there also passed =
    (refl, one_stop bytes stop other (subst (StopsAt stop) front at) (subst (StopsAt other) behind there) ends also, walked ∙ sym passed)
one_walk serves is bytes number [] (f ∷ fs) stop other rest after_them start a b front at ends walked behind there also passed =
    absurd (first_goes_on bytes f.request behind.0 stop behind.1 (subst (StopsAt stop) front at) ends)
one_walk serves is bytes number (e ∷ es) [] stop other rest after_them start a b front at ends walked behind there also passed =
    absurd (first_goes_on bytes e.request front.0 other front.1 (subst (StopsAt other) behind there) also)
one_walk serves is bytes number (e ∷ es) (f ∷ fs) stop other rest after_them start a b front at ends walked behind there also passed =
    let first = one_first bytes e.request f.request front.0 behind.0 front.1 behind.1 in
    let same = is (closes number e.request) start walked.0 passed.0 e f walked.1 (subst (λ r. serves (closes number r) start f passed.0) (sym first.0) passed.1) first.0 in
    go (stops_after number e) refl same.0 same.1
    (λ goes goes_too. one_walk serves is front.0 (number + 1) es fs stop other rest after_them walked.0 a b front.2 at goes walked.2
    (subst (λ text. Front text (map request_in fs) after_them) (sym first.1) behind.2) there goes_too (subst (λ mid. Walked serves (number + 1) mid fs b) (sym same.1) passed.2))
  where
    go : (last : Bool) → stops_after number e ≡ last → e ≡ f → walked.0 ≡ passed.0
        → (EndsAt stop (number + 1) es → EndsAt other (number + 1) fs → (es ≡ fs) × (stop ≡ other) × (a ≡ b))
        → (e ∷ es ≡ f ∷ fs) × (stop ≡ other) × (a ≡ b)
    go true stops same mid further =
        let ended = rw stops at ends in
        let ended_too = rw (sym (ap (stops_after number) same) ∙ stops) at also in
        let left = subst (λ xs. Walked serves (number + 1) walked.0 xs a) ended.0 walked.2 in
        let left_too = subst (λ xs. Walked serves (number + 1) passed.0 xs b) ended_too.0 passed.2 in
        (ap (λ x. x ∷ es) same ∙ ap (λ xs. f ∷ xs) (ended.0 ∙ sym ended_too.0), ended.1 ∙ sym ended_too.1, left ∙ mid ∙ sym left_too)
    go false stops same mid further =
        let all = further (rw stops at ends) (rw (sym (ap (stops_after number) same) ∙ stops) at also) in
        (ap (λ x. x ∷ es) same ∙ ap (λ xs. f ∷ xs) all.0, all.1, all.2)
