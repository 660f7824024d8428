-- Rounds of a site, one after the other.
use Rattle.std.proofs.Common.{◌≡◌, ℕ, ◌<◌, List, Bool, Option, subst}
use Rattle.compiled_pages.specs.Pages.{needs_at}
use Rattle.pages_serve.specs.Onward.{IsOnward}
use Rattle.pages_serve.specs.Rounds.{IsRound}
use Rattle.pages_serve.specs.Talked.{HasTalked, audiences}
use Rattle.site_core.specs.Lived.{Lived}
use Rattle.site_rounds.specs.Served.{IsServed}
use Rattle.site_words.specs.Law.{Legal}

-- one of them
pub one_round : (drafts shown : Bool) (site after next : Lived) (old new : Option (List ℕ)) (before risen : ℕ) → shown ≡ drafts → after.opening ≡ site.opening → Legal needs_at after.opening after.history
    → ((number : ℕ) → number < site.opening.passes → IsServed (λ audience. HasTalked audience site.opening) audiences shown needs_at site.opening number site.history after.history)
    → IsOnward needs_at after next old new before risen
    → IsRound drafts (record { site = site; taken = old; faults = before }) (record { site = next; taken = new; faults = risen })
one_round drafts shown site after next old new before risen same opening is_legal served onward = record {
  after = after;
  opening = opening;
  is_legal = is_legal;
  served = λ number low. subst (λ d. IsServed (λ audience. HasTalked audience site.opening) audiences d needs_at site.opening number site.history after.history) same (served number low);
  onward = onward;
}
