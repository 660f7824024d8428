-- The reply that was given, by what the port answers.
use Rattle.std.proofs.Common.{◌≡◌, Bool, true, false, Option, Some, refl, sym, ap}
use Rattle.std.specs.declared.sync.Arc.{Arc}
use Rattle.site_words.specs.declared.port.Begun.{Begun}
use Rattle.site_words.specs.declared.port.Fresh.{Fresh}
use Rattle.site_words.specs.declared.port.Snapped.{Snapped}
use Rattle.site_words.specs.declared.words.Reply.{Reply}
use Rattle.site_words.specs.declared.words.Reply.TheVariants as reply
use Rattle.site_words.specs.Answers.{is_hit}
use Rattle.site_state.specs.declared.gift.Gift.{Gift}
use Rattle.site_state.specs.declared.gift.Gift.TheVariants.{Start, Made, Id, Picture}
use Rattle.site_core.specs.ReadGiven.{IsBegunBy, IsFoundBy, IsFreshBy, IsHitBy, IsSnappedBy}

module _ {P : Type 0} where
  pub begun_reply : (r : Reply) (g : Gift P) (begun : Begun) → IsBegunBy r g begun → r ≡ reply.Begun begun.request begun.version begun.session
  begun_reply (reply.Begun request version session) (Start tree attrs) begun told = sym (ap (λ (b : Begun). reply.Begun b.request b.version b.session) told)
  begun_reply r g begun told = absurd told

  pub fresh_reply : (r : Reply) (g : Gift P) (fresh : Fresh) → IsFreshBy r g fresh → r ≡ reply.Made fresh.session
  fresh_reply (reply.Made session) (Id id) fresh told = sym (ap (λ (f : Fresh). reply.Made f.session) told)
  fresh_reply r g fresh told = absurd told

  pub snapped_reply : (r : Reply) (g : Gift P) (snapped : Snapped) → IsSnappedBy r g snapped → r ≡ reply.Snapped snapped.version snapped.session
  snapped_reply (reply.Snapped version session) (Picture tree app attrs) snapped told = sym (ap (λ (s : Snapped). reply.Snapped s.version s.session) told)
  snapped_reply r g snapped told = absurd told

  hit_reply : {Z : Type 0} (hit : Bool) (g : Gift P) (found : Option (Arc P Z)) → IsHitBy hit g found → reply.Fetched hit ≡ is_hit found
  hit_reply false g found told = sym (ap (λ f. is_hit f) told)
  hit_reply true (Made v) (Some w) told = refl
  hit_reply true g found told = absurd told

  pub found_reply : {Z : Type 0} (r : Reply) (g : Gift P) (found : Option (Arc P Z)) → IsFoundBy r g found → r ≡ is_hit found
  found_reply (reply.Fetched hit) g found told = hit_reply hit g found told
  found_reply r g found told = absurd told
