-- A connection over contexts without files.
use Rattle.std.proofs.Common.{◌≡◌, ℕ, suc, List, [], ◌∷◌, length, map, Option, Some, refl, sym, ap, subst, ◌∙◌}
use Rattle.std.specs.List.{slice_get}
use Rattle.context_talk.proofs.AmongLemmas.{untold}
use Rattle.context_talk.proofs.SiteLemmas.{count_of, get_made, is_new, made_twice}
use Rattle.context_talk.specs.Among.{TalkedAmong}
use Rattle.context_talk.specs.Contexts.{HasTalkedAmong, first_connections, first_sites}
use Rattle.context_words.specs.Parts.{lent_of}
use Rattle.conversation.specs.declared.ended.Ended.{Ended}
use Rattle.conversation.specs.declared.ended.Ended.TheVariants.{NoMemory}
use Rattle.edges.specs.Clock.{Moments}
use Rattle.pages_talk.specs.Play.{only_connection}
use Rattle.pass_course.specs.Course.{IsIdle}
use Rattle.site_core.specs.Lived.{Lived}
use Rattle.site_words.specs.declared.words.Entry.{Entry}
use Rattle.talk_words.specs.Connection.{Connection}

-- memory ran out while the sites were made: nothing was written
pub untold_alone : (names : List (List ℕ)) (seed : List ℕ) (moments : Moments) (steps : ℕ) (left : Option (List ℕ)) (faults : ℕ) (taken : Option (List ℕ)) → HasTalkedAmong names seed moments moments steps steps left left faults faults taken taken NoMemory
untold_alone names seed moments steps left faults taken =
    let seen = map (λ (site : Lived). site.history) (first_sites names seed) in
    (seen, untold names (first_connections (first_sites names seed)) seen (lent_of moments steps) left faults taken)

length_map : {X Y : Type 0} (f : X → Y) (xs : List X) → length (map f xs) ≡ length xs
length_map f [] = refl
length_map f (x ∷ xs) = ap (λ n. suc n) (length_map f xs)

module _ {P : Type 0} (site_of : P → Lived) (names : List (List ℕ)) (seed : List ℕ) (ports : List P) (is : map site_of ports ≡ first_sites names seed) where
  pub ports_even : length ports ≡ length names
  ports_even = sym (length_map site_of ports) ∙ (ap (λ sites. length sites) is ∙ count_of seed (length names))

  pub all_idle : (context : ℕ) (port : P) → slice_get ports context ≡ Some port → IsIdle (site_of port).opening 0 (site_of port).history
  all_idle context port at = is_new seed (length names) context (site_of port) (sym (ap (λ sites. slice_get sites context) is) ∙ get_made site_of ports context port at)

  -- what was said over these ports was said over the sites
  pub talked : (connections : List (Connection × ℕ)) (seen now : List (List Entry)) (moments still : Moments) (steps further : ℕ) (left later : Option (List ℕ)) (before after : ℕ) (taken has : Option (List ℕ)) (ended : Ended)
      → connections ≡ map (λ (port : P). (only_connection (site_of port).opening, 0)) ports → seen ≡ map (λ (port : P). (site_of port).history) ports
      → TalkedAmong names connections seen now (lent_of moments steps) (lent_of still further) left later before after taken has ended → HasTalkedAmong names seed moments still steps further left later before after taken has ended
  talked connections seen now moments still steps further left later before after taken has ended places parts talk =
      let connections_are : connections ≡ first_connections (first_sites names seed) = places ∙ (made_twice site_of (λ (site : Lived). (only_connection site.opening, 0)) ports ∙ ap first_connections is) in
      let seen_is : seen ≡ map (λ (site : Lived). site.history) (first_sites names seed) = parts ∙ (made_twice site_of (λ (site : Lived). site.history) ports ∙ ap (map (λ (site : Lived). site.history)) is) in (
        now,
        subst (λ (c : List (Connection × ℕ)). TalkedAmong names c (map (λ (site : Lived). site.history) (first_sites names seed)) now (lent_of moments steps) (lent_of still further) left later before after taken has ended) connections_are
            (subst (λ (s : List (List Entry)). TalkedAmong names connections s now (lent_of moments steps) (lent_of still further) left later before after taken has ended) seen_is talk),
      )
