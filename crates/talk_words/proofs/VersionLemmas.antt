-- No request has an older version than one before it.
use Rattle.std.proofs.Common.{◌≡◌, ℕ, ◌+◌, ◌≤◌, List, ◌∷◌, ◌++◌, sym, ap, subst, append_assoc, arith}
use Rattle.edges.specs.History.{IsFront}
use Rattle.page_answers.specs.Standing.{Begins}
use Rattle.site_words.proofs.Legal.{legal_rest}
use Rattle.site_words.proofs.OneHistory.{begun_version, publishes_both}
use Rattle.site_words.specs.History.{publishes}
use Rattle.site_words.specs.Law.{Legal}
use Rattle.site_words.specs.State.{start_of}
use Rattle.site_words.specs.Trees.{Needs}
use Rattle.site_words.specs.declared.words.Entry.{Entry}
use Rattle.site_words.specs.declared.words.Opening.{Opening}
use Rattle.talk_words.specs.Versions.{AreNeverOlder, Beginning, entry_of}

latest : (needs : Needs) (x : Opening) (front rest : List Entry) (b : Beginning) → Legal needs x (front ++ entry_of b ∷ rest) → b.version ≡ x.version + publishes front
latest needs x front rest b legal = begun_version needs x front b.pass b.cookie b.moment b.request b.version b.session (legal_rest needs x (start_of x) front (entry_of b ∷ rest) legal).0.did

more : (a b : List Entry) → publishes a ≤ publishes (a ++ b)
more a b = let h = publishes_both a b in omega arith

later : (needs : Needs) (x : Opening) (front mid rest : List Entry) (b other : Beginning) → Legal needs x (front ++ entry_of b ∷ (mid ++ entry_of other ∷ rest)) → b.version ≤ other.version
later needs x front mid rest b other legal =
    let one = latest needs x front (mid ++ entry_of other ∷ rest) b legal in
    let two = latest needs x (front ++ entry_of b ∷ mid) rest other (subst (λ h. Legal needs x h) (sym (append_assoc front (entry_of b ∷ mid) (entry_of other ∷ rest))) legal) in
    let grown = more front (entry_of b ∷ mid) in
    omega (arith, one, two, grown)

seen : (needs : Needs) (x : Opening) (pass : ℕ) (cookie : List ℕ) (moment : ℕ) (old begun : List Entry) (begins : Begins needs x pass cookie moment old begun) → x.version + publishes old ≤ begins.version
seen needs x pass cookie moment old begun begins =
    let longer : IsFront old begins.acts.front = begins.acts.stays.longer in
    let grown = more old longer.0 in
    let same = ap publishes longer.1 in
    let is = begins.latest in
    omega (arith, grown, same, is)

pub never_older : AreNeverOlder
never_older = record { latest = latest; later = later; seen = seen }
