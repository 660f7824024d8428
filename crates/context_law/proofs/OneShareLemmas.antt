-- Where one pass alone acts on a context's site, what is asked of that context has one walk.
use Rattle.std.proofs.Common.{◌≡◌, ◌+◌, ℕ, Bool, true, false, List, [], ◌∷◌, ◌++◌, length, Some, refl, sym, ap, subst, ◌∙◌, arith}
use Rattle.std.specs.Prelude.{nat_lt}
use Rattle.std.proofs.lemmas.Bool.{lt-ltb}
use Rattle.context_desk.specs.Shares.{AllTaken, share, taken_by}
use Rattle.context_law.specs.OneShare.{IsSameInTwoWorlds, WalksAreOne, all_asked, all_moments}
use Rattle.context_words.proofs.AloneLemmas.{own_walks}
use Rattle.context_words.specs.Parts.{Lent, Part, lent_of, stand_at}
use Rattle.context_words.specs.Shared.{Taken, Takes, Tells}
use Rattle.conversation.specs.Conversation.{WalkedBy}
use Rattle.conversation.specs.Exchange.{Exchange}
use Rattle.edges.specs.Clock.{Answers, Moments, ahead_after}
use Rattle.http_in.specs.declared.request.Request.{Request}
use Rattle.page_meaning.specs.Laws.{RequestsGoOn}
use Rattle.talk_law.proofs.Exchanges.{IsGood, said_one, tells_said}
use Rattle.talk_law.specs.OneTalk.{IsAlone}
use Rattle.talk_words.proofs.UseLemmas.{said_used}
use Rattle.talk_words.specs.Connection.{Connection, Stand}
use Rattle.talk_words.specs.Noted.{telling}
use Rattle.talk_words.specs.Said.{IsSaid}

-- a clock that tells these moments, and one more behind them
abbrev ahead : List ℕ → Moments
ahead moments = telling (moments ++ 0 ∷ [])

ahead_behind : (first next : ℕ) (more : List ℕ) → ahead_after (first ∷ next ∷ more) ≡ next ∷ more
ahead_behind first next more =
    let many : nat_lt 1 (length (first ∷ next ∷ more)) ≡ true = lt-ltb 1 (length (first ∷ next ∷ more)) (omega arith) in
    rw many refl

first_told : (moment : ℕ) (further : List ℕ) → Answers (ahead (moment ∷ further)) (ahead further) moment
first_told moment [] = record { goes = (refl, ap Some (sym (ahead_behind moment 0 []))); notes = refl }
first_told moment (next ∷ further) = record { goes = (refl, ap Some (sym (ahead_behind moment next (further ++ 0 ∷ [])))); notes = refl }

tells_first : (moments further : List ℕ) → Tells (ahead (moments ++ further)) moments (ahead further)
tells_first [] further = refl
tells_first (moment ∷ moments) further = (ahead (moments ++ further), first_told moment (moments ++ further), tells_first moments further)

-- a clock that tells all moments that are taken lets them be taken
takes_all : (taken : List Taken) (steps : ℕ) → (after : Lent) × AllTaken Takes (lent_of (ahead (all_moments taken)) steps) taken after
takes_all [] steps = (lent_of (ahead []) steps, refl)
takes_all (t ∷ taken) steps =
    let rest = takes_all taken (steps + t.bytes) in
    (rest.0, (lent_of (ahead (all_moments taken)) (steps + t.bytes), (tells_first t.moments (all_moments taken), refl), rest.1))

-- the parts of what was asked

abbrev is_nothing : List (Bool × Request) → Bool
is_nothing [] = true
is_nothing (first ∷ more) = false

abbrev first_or : Bool × Request → List (Bool × Request) → Bool × Request
first_or other [] = other
first_or other (first ∷ more) = first

abbrev behind_first : List (Bool × Request) → List (Bool × Request)
behind_first [] = []
behind_first (first ∷ more) = more

said_same : (close close' : Bool) (e f : Exchange) (said said' : List (Bool × Exchange)) → close ≡ close' → e ≡ f → said ≡ said' → (close, e) ∷ said ≡ (close', f) ∷ said'
said_same close close' e f said said' closing same rest =
    ap (λ (c : Bool). (c, e) ∷ said) closing ∙ (ap (λ (x : Exchange). (close', x) ∷ said) same ∙ ap (λ (xs : List (Bool × Exchange)). (close', f) ∷ xs) rest)

-- two walks from one good state, in which the same is asked, are one
walk_one : RequestsGoOn → (w : Connection) → IsAlone w → (said said' : List (Bool × Exchange)) (old now other : Stand) → IsGood w old → all_asked said ≡ all_asked said'
    → WalkedBy (IsSaid w) old said now → WalkedBy (IsSaid w) old said' other → (said ≡ said') × (now ≡ other)
walk_one go_on w alone [] [] old now other good asked a b = (refl, a ∙ sym b)
walk_one go_on w alone [] (f ∷ said') old now other good asked a b = absurd (let clash : true ≡ false = ap is_nothing asked in cc)
walk_one go_on w alone (e ∷ said) [] old now other good asked a b = absurd (let clash : false ≡ true = ap is_nothing asked in cc)
walk_one go_on w alone ((close, e) ∷ said) ((close', f) ∷ said') old now other good asked a b =
    let closing : close ≡ close' = ap (λ (xs : List (Bool × Request)). (first_or (close, e.request) xs).0) asked in
    let request : e.request ≡ f.request = ap (λ (xs : List (Bool × Request)). (first_or (close, e.request) xs).1) asked in
    let further : all_asked said ≡ all_asked said' = ap behind_first asked in
    let moved : IsSaid w close old f b.0 = subst (λ (c : Bool). IsSaid w c old f b.0) (sym closing) b.1 in
    let same = said_one go_on w alone close old a.0 b.0 e f good a.1 moved request in
    let used = said_used w close old a.0 e good.0 a.1 in
    let next : IsGood w a.0 = (used.did.is_legal, tells_said go_on w alone close old a.0 e good.1 a.1) in
    let rest = walk_one go_on w alone said said' a.0 now other next further a.2 (subst (λ (s : Stand). WalkedBy (IsSaid w) s said' other) (sym same.1) b.2) in
    (said_same close close' e f said said' closing same.0 rest.0, rest.1)

part_is : (a b : Part) → a.draft ≡ b.draft → a.seen ≡ b.seen → a ≡ b
part_is a b draft seen = ap (λ d. let p : Part = record { draft = d; seen = a.seen } in p) draft ∙ ap (λ s. let p : Part = record { draft = b.draft; seen = s } in p) seen

pub walks_are_one : {H : Type 0} → RequestsGoOn → WalksAreOne H
walks_are_one go_on place old new new' said said' taken taken' alone legal walked walked' asked moments =
    let first = takes_all taken 0 in
    let second = takes_all taken' 0 in
    let start = lent_of (ahead (all_moments taken)) 0 in
    let took : AllTaken Takes start taken' second.0 = subst (λ (ms : List ℕ). AllTaken Takes (lent_of (ahead ms) 0) taken' second.0) (sym moments) second.1 in
    let good : IsGood place.0 (stand_at old start) = (legal, (all_moments taken ++ 0 ∷ [], refl)) in
    let one = own_walks place.0 (old, start) (new, first.0) said (walked.walked start first.0 first.1) in
    let two = own_walks place.0 (old, start) (new', second.0) said' (walked'.walked start second.0 took) in
    let same = walk_one go_on place.0 alone said said' (stand_at old start) (stand_at new first.0) (stand_at new' second.0) good asked one two in
    (same.0, part_is new new' (ap (λ (s : Stand). s.draft) same.1) (ap (λ (s : Stand). s.at.seen) same.1))

pub same_in_two_worlds : {H : Type 0} → RequestsGoOn → IsSameInTwoWorlds H
same_in_two_worlds go_on names places places' number number' old new old' new' exchanges exchanges' shared shared' context place before there there' had had' alone legal asked moments =
    let one = shared.walked context place before there had in
    let two = shared'.walked context place before there' had' in
    let same = walks_are_one go_on place before one.0 two.0 (share names context number exchanges) (share names context number' exchanges')
    (taken_by context shared.taken) (taken_by context shared'.taken) alone legal one.2 two.2 asked moments in
    (same.0, one.1 ∙ ap Some same.1 ∙ sym two.1)
