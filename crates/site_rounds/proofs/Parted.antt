-- The passes of a site that are parted for a round.
use Rattle.std.proofs.Common.{◌≡◌, ℕ, ◌+◌, ◌-◌, List, ◌++◌, All, length, take, drop, sym, ap, subst, ◌∙◌, arith, length-append}
use Rattle.std.proofs.lemmas.List.Elements.{All-drop, All-take}
use Rattle.site_rounds.proofs.Passes.{cut_twice}
use Rattle.site_rounds.specs.Parted.{IsParted}

-- a list that was cut twice is parted
pub parted_so : {X : Type 0} (shown m r : ℕ) (all others readers editors previews : List X) → others ≡ take m all → previews ≡ drop m all → readers ≡ take r others → editors ≡ drop r others
    → m ≡ length all - shown → r ≡ length others - 1 → IsParted shown all readers editors previews
parted_so shown m r all others readers editors previews kept shown_are first last m_is r_is = record {
  others = others;
  others_are = kept ∙ ap (λ n. take n all) m_is;
  previews_are = shown_are ∙ ap (λ n. drop n all) m_is;
  readers_are = first ∙ ap (λ n. take n others) r_is;
  editors_are = last ∙ ap (λ n. drop n others) r_is;
}

module _ {X : Type 0} (shown : ℕ) (all readers editors previews : List X) (parts : IsParted shown all readers editors previews) where
  -- its parts make the whole
  pub parts_whole : (readers ++ editors) ++ previews ≡ all
  parts_whole = cut_twice readers editors parts.others previews all (length parts.others - 1) (length all - shown) parts.readers_are parts.editors_are parts.others_are parts.previews_are

  -- and are as long
  pub parts_long : length readers + length editors + length previews ≡ length all
  parts_long =
      let whole : length ((readers ++ editors) ++ previews) ≡ length all = ap length parts_whole in
      let outer : length ((readers ++ editors) ++ previews) ≡ length (readers ++ editors) + length previews = length-append (readers ++ editors) previews in
      let inner : length (readers ++ editors) ≡ length readers + length editors = length-append readers editors in
      omega arith

  others_all : (P : X → Type 0) → All P all → All P parts.others
  others_all P holds = subst (All P) (sym parts.others_are) (All-take P (length all - shown) all holds)

  -- what holds of all holds of each part
  pub readers_all : (P : X → Type 0) → All P all → All P readers
  readers_all P holds = subst (All P) (sym parts.readers_are) (All-take P (length parts.others - 1) parts.others (others_all P holds))

  pub editors_all : (P : X → Type 0) → All P all → All P editors
  editors_all P holds = subst (All P) (sym parts.editors_are) (All-drop P (length parts.others - 1) parts.others (others_all P holds))

  pub previews_all : (P : X → Type 0) → All P all → All P previews
  previews_all P holds = subst (All P) (sym parts.previews_are) (All-drop P (length all - shown) all holds)
