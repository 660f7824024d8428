-- The desks of a connection to several contexts, with the ports of these.
use Rattle.std.proofs.Common.{◌≡◌, ℕ, zero, suc, ◌<◌, List, [], ◌∷◌, length, map, Option, Some, false, refl, ap, ◌∙◌, inl, arith}
use Rattle.std.specs.Prelude.{All}
use Rattle.std.specs.List.{slice_get}
use Rattle.std.proofs.lemmas.List.Elements.{All-tail}
use Rattle.context_desk.specs.Each.{each}
use Rattle.context_desk.specs.Several.{several_of}
use Rattle.context_talk.specs.Among.{TalkedAmong, connections_of, first_parts}
use Rattle.context_words.specs.Parts.{Lent, Part, part_of}
use Rattle.conversation.specs.declared.ended.Ended.TheVariants.{NoMemory}
use Rattle.edges.proofs.ToldBytes.{appends_none, consumes_none}
use Rattle.compiled_pages.specs.Pages.{needs_at}
use Rattle.site_words.specs.declared.words.Entry.{Entry}
use Rattle.site_words.specs.declared.words.Opening.{Opening}
use Rattle.source_tree.specs.declared.edit.Edit.{Edit}
use Rattle.talk_words.specs.Connection.{Connection, connection_of}
use Rattle.talk_words.specs.declared.role.Role.{Role}

-- where one of two lists of one length has an item, so has the other
pub other_has : {X Y : Type 0} (xs : List X) (ys : List Y) (k : ℕ) (y : Y) → length xs ≡ length ys → slice_get ys k ≡ Some y → (x : X) × (slice_get xs k ≡ Some x)
other_has xs [] k y same at = absurd (cc)
other_has [] (w ∷ ys) k y same at = absurd (cc)
other_has (z ∷ xs) (w ∷ ys) zero y same at = (z, refl)
other_has (z ∷ xs) (w ∷ ys) (suc k) y same at = other_has xs ys k y (let s : suc (length xs) ≡ suc (length ys) = same in omega arith) at

module _ {X P H : Type 0} (role_of : X → Role) (draft_of : X → List Edit) (opening : P → Opening) (pass : P → ℕ) (home : P → H) (seen : P → List Entry) (role : Role) where
  abbrev place : X → P → Connection × H
  place x p = (connection_of needs_at (opening p) (pass p) (role_of x), home p)

  abbrev own : X → P → Part
  own x p = part_of (draft_of x) (seen p)

  abbrev IsFresh : X → Type 0
  IsFresh x = (role_of x ≡ role) × (draft_of x ≡ [])

  pub fresh_places : (xs : List X) (ps : List P) → All IsFresh xs → length xs ≡ length ps → each place xs ps ≡ connections_of opening pass home role ps
  fresh_places [] [] all same = refl
  fresh_places [] (p ∷ ps) all same = absurd (cc)
  fresh_places (x ∷ xs) [] all same = absurd (cc)
  fresh_places (x ∷ xs) (p ∷ ps) all same =
      let first : role_of x ≡ role = (all 0 x (let b : 0 < suc (length xs) = omega arith in b)).0 in
      let more = fresh_places xs ps (All-tail IsFresh x xs all) (let s : suc (length xs) ≡ suc (length ps) = same in omega arith) in
      ap (λ r. (connection_of needs_at (opening p) (pass p) r, home p) ∷ each place xs ps) first ∙ ap (λ l. (connection_of needs_at (opening p) (pass p) role, home p) ∷ l) more

  pub fresh_parts : (xs : List X) (ps : List P) → All IsFresh xs → length xs ≡ length ps → each own xs ps ≡ first_parts (map seen ps)
  fresh_parts [] [] all same = refl
  fresh_parts [] (p ∷ ps) all same = absurd (cc)
  fresh_parts (x ∷ xs) [] all same = absurd (cc)
  fresh_parts (x ∷ xs) (p ∷ ps) all same =
      let first : draft_of x ≡ [] = (all 0 x (let b : 0 < suc (length xs) = omega arith in b)).1 in
      let more = fresh_parts xs ps (All-tail IsFresh x xs all) (let s : suc (length xs) ≡ suc (length ps) = same in omega arith) in
      ap (λ d. part_of d (seen p) ∷ each own xs ps) first ∙ ap (λ l. part_of [] (seen p) ∷ l) more

  pub seen_parts : (xs : List X) (ps : List P) → length xs ≡ length ps → map (λ (part : Part). part.seen) (each own xs ps) ≡ map seen ps
  seen_parts [] [] same = refl
  seen_parts [] (p ∷ ps) same = absurd (cc)
  seen_parts (x ∷ xs) [] same = absurd (cc)
  seen_parts (x ∷ xs) (p ∷ ps) same = ap (λ l. seen p ∷ l) (seen_parts xs ps (let s : suc (length xs) ≡ suc (length ps) = same in omega arith))

  -- ports whose desks are at the places of others are the same ones
  pub same_ports : (xs : List X) (ps olds : List P) → length xs ≡ length ps → each place xs ps ≡ connections_of opening pass home role olds → connections_of opening pass home role ps ≡ connections_of opening pass home role olds
  same_ports [] [] [] same is = refl
  same_ports [] [] (o ∷ olds) same is = absurd (cc)
  same_ports [] (p ∷ ps) olds same is = absurd (cc)
  same_ports (x ∷ xs) [] olds same is = absurd (cc)
  same_ports (x ∷ xs) (p ∷ ps) [] same is = absurd (cc)
  same_ports (x ∷ xs) (p ∷ ps) (o ∷ olds) same is =
      let first : place x p ≡ (connection_of needs_at (opening o) (pass o) role, home o) = cc in
      let rest : each place xs ps ≡ connections_of opening pass home role olds = cc in
      let one : opening p ≡ opening o = ap (λ (c : Connection × H). c.0.opening) first in
      let two : pass p ≡ pass o = ap (λ (c : Connection × H). c.0.pass) first in
      let three : home p ≡ home o = ap (λ (c : Connection × H). c.1) first in
      let head : (connection_of needs_at (opening p) (pass p) role, home p) ≡ (connection_of needs_at (opening o) (pass o) role, home o) =
      ap (λ y. (connection_of needs_at y (pass p) role, home p)) one ∙ (ap (λ n. (connection_of needs_at (opening o) n role, home p)) two ∙ ap (λ h. (connection_of needs_at (opening o) (pass o) role, h)) three) in
      ap (λ c. c ∷ connections_of opening pass home role ps) head ∙ ap (λ l. (connection_of needs_at (opening o) (pass o) role, home o) ∷ l)
      (same_ports xs ps olds (let s : suc (length xs) ≡ suc (length ps) = same in omega arith) rest)

-- what the first parts have seen
pub first_seen : (seen : List (List Entry)) → map (λ (part : Part). part.seen) (first_parts seen) ≡ seen
first_seen [] = refl
first_seen (s ∷ seen) = ap (λ l. s ∷ l) (first_seen seen)

-- memory ran out before anything was read: nothing was written
pub untold : {H : Type 0} (names : List (List ℕ)) (connections : List (Connection × H)) (seen : List (List Entry)) (lent : Lent) (left : Option (List ℕ)) (faults : ℕ) (taken : Option (List ℕ))
    → TalkedAmong names connections seen seen lent lent left left faults faults taken taken NoMemory
untold names connections seen lent left faults taken = record {
  parts = first_parts seen;
  parts_are = first_seen seen;
  talk = record {
    rest = [];
    mid = several_of (first_parts seen) lent;
    come = record { exchanges = []; came = []; consumed = consumes_none left; front = refl; goes_on = tt; walked = refl };
    text = [];
    is_last = inl (refl, refl);
    failed = false;
    cause = λ is. absurd (cc);
    sent = appends_none taken;
  };
}
