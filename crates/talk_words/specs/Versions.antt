-- The versions under which requests are answered.
use Rattle.std.specs.Prelude.{◌≡◌, ℕ, ◌+◌, ◌≤◌, List, ◌∷◌, ◌++◌, Option}
use Rattle.page_answers.specs.Standing.{Begins}
use Rattle.site_words.specs.History.{publishes}
use Rattle.site_words.specs.Law.{Legal}
use Rattle.site_words.specs.Trees.{Needs}
use Rattle.site_words.specs.declared.words.Entry.{Entry}
use Rattle.site_words.specs.declared.words.Op.TheVariants as op
use Rattle.site_words.specs.declared.words.Opening.{Opening}
use Rattle.site_words.specs.declared.words.Reply.TheVariants as reply

-- a request's beginning
pub record Beginning : Type 0 where
  pub pass : ℕ
  pub cookie : List ℕ
  pub moment : ℕ
  pub request : ℕ
  pub version : ℕ
  pub session : Option ℕ

-- the entry of a request's beginning
abbrev pub entry_of : Beginning → Entry
entry_of b = record { pass = b.pass; op = op.Begin b.cookie b.moment; reply = reply.Begun b.request b.version b.session }

-- no version is older than one that was seen before
pub record AreNeverOlder : Type 0 where
  -- a request has the version that is the latest where it begins
  pub latest : (needs : Needs) (x : Opening) (front rest : List Entry) (b : Beginning) → Legal needs x (front ++ entry_of b ∷ rest) → b.version ≡ x.version + publishes front
  -- a request that begins later has none that is older, whichever passes began the two and whichever sessions they found
  pub later : (needs : Needs) (x : Opening) (front mid rest : List Entry) (b other : Beginning) → Legal needs x (front ++ entry_of b ∷ (mid ++ entry_of other ∷ rest)) → b.version ≤ other.version
  -- no request has an older one than its pass had seen
  pub seen : (needs : Needs) (x : Opening) (pass : ℕ) (cookie : List ℕ) (moment : ℕ) (old begun : List Entry) (begins : Begins needs x pass cookie moment old begun) → x.version + publishes old ≤ begins.version
