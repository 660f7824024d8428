-- The nodes of a file and what is read at its include directives, apart.
use Rattle.std.proofs.Common.{◌≡◌, ◌<◌, ◌+◌, ℕ, List, [], ◌∷◌, ◌++◌, map, refl, ap, sym, ◌∙◌, append_assoc, length, drop, get_or, add-one, drop-cons, subst}
use Rattle.std.proofs.lemmas.List.{append-nil}
use Rattle.page_pieces.specs.declared.setting.BroughtPrefixes.{BroughtPrefixes}
use Rattle.page_pieces.specs.Settings.{brought_at}
use Rattle.page_directives.specs.Directive.{Directive}
use Rattle.unit_source.specs.declared.found.FoundNodes.{FoundNodes}
use Rattle.unit_source.specs.declared.placed.PlacedNode.{PlacedNode}
use Rattle.unit_source.specs.declared.placed.PlacedNode.TheVariants.{Element, Included}
use Rattle.unit_source.specs.declared.placed.PlacedElement.{PlacedElement}
use Rattle.unit_source.specs.declared.placed.PlacedInclude.{PlacedInclude}
use Rattle.unit_source.specs.declared.steps.Step.{Step as Kept}
use Rattle.unit_source.specs.InPlace.{InPlace, done, leaf, element, broken, included, followed}
use Rattle.unit_source.specs.Placed.{in_place, node_in_place}
use Rattle.unit_source.specs.ReadSplice.{Gone, gone, behind_file, found_of, step_of, taken_of}
use Rattle.unit_source.specs.ReadSteps.{Step, registers, includes, steps_of, Found, Taken, found_in, taken, both_taken, filled_by, leaf_filled, filled}
use Rattle.unit_source.specs.Splice.{Going, Inner, Spliced, level_within, nodes_read, registered, with_prefixes}
use Rattle.unit_source.proofs.PlacedLemmas.{element_placed, include_placed}

-- the steps of nodes, one after the other
pub steps_followed : (around : ℕ) (a b : InPlace) → steps_of around (followed a b) ≡ steps_of around a ++ steps_of around b
steps_followed around done b = refl
steps_followed around (leaf kind place next) b = ap (λ s. registers (registered kind place) ∷ s) (steps_followed around next b)
steps_followed around (element opened body next) b =
    ap (λ s. steps_of (level_within around) body ++ s) (steps_followed around next b) ∙ sym (append_assoc (steps_of (level_within around) body) (steps_of around next) (steps_of around b))
steps_followed around (broken fault next) b = steps_followed around next b
steps_followed around (included d entry body next) b = ap (λ s. includes around d ∷ s) (steps_followed around next b)

pub one_stepped : (steps : List Step) (around : ℕ) (node : PlacedNode) (nodes : List PlacedNode)
    → (steps ++ steps_of around (node_in_place node)) ++ steps_of around (in_place nodes) ≡ steps ++ steps_of around (followed (node_in_place node) (in_place nodes))
one_stepped steps around node nodes =
    append_assoc steps (steps_of around (node_in_place node)) (steps_of around (in_place nodes)) ∙ sym (ap (λ s. steps ++ s) (steps_followed around (node_in_place node) (in_place nodes)))

-- the loop looked at one more node
pub next_stepped : (around : ℕ) (all : List PlacedNode) (i : ℕ) (node : PlacedNode) (before steps total : List Step) → i < length all → node ≡ get_or all i node
    → before ++ steps_of around (in_place (drop i all)) ≡ total → steps ≡ before ++ steps_of around (node_in_place node)
    → steps ++ steps_of around (in_place (drop (i + 1) all)) ≡ total
next_stepped around all i node before steps total lt is whole more =
    ap (λ s. s ++ steps_of around (in_place (drop (i + 1) all))) more
    ∙ one_stepped before around node (drop (i + 1) all)
    ∙ ap (λ ns. before ++ steps_of around (in_place ns)) (sym split) ∙ whole
  where
    split : drop i all ≡ node ∷ drop (i + 1) all
    split = drop-cons all i node lt ∙ ap (λ n. get_or all i node ∷ drop n all) (sym (add-one i)) ∙ ap (λ x. x ∷ drop (i + 1) all) (sym is)

pub element_steps : (around : ℕ) (e : PlacedElement) → steps_of around (node_in_place (Element e)) ≡ steps_of (level_within around) (in_place e.body.items)
element_steps around e = ap (steps_of around) (element_placed e) ∙ append-nil (steps_of (level_within around) (in_place e.body.items))

pub include_steps : (around : ℕ) (i : PlacedInclude) → steps_of around (node_in_place (Included i)) ≡ includes around i.directive ∷ []
include_steps around i = ap (steps_of around) (include_placed i)

-- steps one after the other
pub both_assoc : (a b c : Taken) → both_taken (both_taken a b) c ≡ both_taken a (both_taken b c)
both_assoc a b c = ap (λ f. with f ((a.names ++ b.names) ++ c.names)) (append_assoc a.found b.found c.found) ∙ ap (λ n. with (a.found ++ (b.found ++ c.found)) n) (append_assoc a.names b.names c.names)
  where
    with : List Found → List (List ℕ) → Taken
    with found names = record { found = found; names = names; going = c.going }

taken_first : (read : ℕ → Directive → Going → Inner) (brought : List BroughtPrefixes) (step : Step) (steps : List Step) (going : Going)
    → taken read brought (step ∷ steps) going ≡ both_taken (taken read brought (step ∷ []) going) (taken read brought steps (taken read brought (step ∷ []) going).going)
taken_first read brought (registers prefixes) steps going = refl
taken_first read brought (includes around d) steps going = ap (λ names. with (names ++ later.names)) (sym (append-nil inner.names))
  where
    inner : Inner
    inner = read around d going

    later : Taken
    later = taken read brought steps (with_prefixes (brought_at d.place.byte brought) inner.going)

    with : List (List ℕ) → Taken
    with names = record { found = found_in inner ∷ later.found; names = names; going = later.going }

-- one more step was taken
pub next_taken : (read : ℕ → Directive → Going → Inner) (brought : List BroughtPrefixes) (all : List Kept) (i : ℕ) (step : Kept) (now next total : Taken)
    → i < length all → step ≡ get_or all i step
    → both_taken now (taken read brought (map step_of (drop i all)) now.going) ≡ total
    → next ≡ both_taken now (taken read brought (step_of step ∷ []) now.going)
    → both_taken next (taken read brought (map step_of (drop (i + 1) all)) next.going) ≡ total
next_taken read brought all i step now next total lt is whole more =
    ap (λ n. both_taken n (taken read brought rest n.going)) more
    ∙ both_assoc now one (taken read brought rest one.going)
    ∙ ap (both_taken now) (sym (taken_first read brought (step_of step) rest now.going))
    ∙ ap (λ s. both_taken now (taken read brought (map step_of s) now.going)) (sym split) ∙ whole
  where
    rest : List Step
    rest = map step_of (drop (i + 1) all)

    one : Taken
    one = taken read brought (step_of step ∷ []) now.going

    split : drop i all ≡ step ∷ drop (i + 1) all
    split = drop-cons all i step lt ∙ ap (λ n. get_or all i step ∷ drop n all) (sym (add-one i)) ∙ ap (λ x. x ∷ drop (i + 1) all) (sym is)

pub registers_taken : (read : ℕ → Directive → Going → Inner) (brought : List BroughtPrefixes) (found : List FoundNodes) (old : Gone) (prefixes : List (List ℕ))
    → taken_of found (gone old.names (with_prefixes prefixes old.going)) ≡ both_taken (taken_of found old) (taken read brought (registers prefixes ∷ []) old.going)
registers_taken read brought found old prefixes = ap (λ f. with f old.names) (sym (append-nil (map found_of found))) ∙ ap (λ n. with (map found_of found ++ []) n) (sym (append-nil old.names))
  where
    with : List Found → List (List ℕ) → Taken
    with found names = record { found = found; names = names; going = with_prefixes prefixes old.going }

map_push : (found : List FoundNodes) (made : FoundNodes) → map found_of (found ++ made ∷ []) ≡ map found_of found ++ found_of made ∷ []
map_push [] made = refl
map_push (f ∷ found) made = ap (λ fs. found_of f ∷ fs) (map_push found made)

pub includes_taken : (read : ℕ → Directive → Going → Inner) (brought : List BroughtPrefixes) (found : List FoundNodes) (made : FoundNodes) (old : Gone) (around : ℕ) (d : Directive)
    → found_of made ≡ found_in (read around d old.going)
    → taken_of (found ++ made ∷ []) (gone (old.names ++ (read around d old.going).names) (with_prefixes (brought_at d.place.byte brought) (read around d old.going).going))
    ≡ both_taken (taken_of found old) (taken read brought (includes around d ∷ []) old.going)
includes_taken read brought found made old around d is =
    ap (λ f. with f (old.names ++ inner.names)) (map_push found made ∙ ap (λ f. map found_of found ++ f ∷ []) is)
    ∙ ap (λ n. with (map found_of found ++ found_in inner ∷ []) (old.names ++ n)) (sym (append-nil inner.names))
  where
    inner : Inner
    inner = read around d old.going

    with : List Found → List (List ℕ) → Taken
    with found names = record { found = found; names = names; going = with_prefixes (brought_at d.place.byte brought) inner.going }

-- what the steps of nodes come to, before other steps, fills the nodes as they are read
record IsTaken (nodes : InPlace) (all more : Taken) (read : Spliced) : Type 0 where
  fill : filled nodes all.found ≡ filled_by read.nodes more.found
  names : all.names ≡ read.names ++ more.names
  going : all.going ≡ more.going

is_taken : (read : ℕ → Directive → Going → Inner) (brought : List BroughtPrefixes) (around : ℕ) (nodes : InPlace) (more : List Step) (going : Going)
    → IsTaken nodes (taken read brought (steps_of around nodes ++ more) going) (taken read brought more (nodes_read read brought around nodes going).going) (nodes_read read brought around nodes going)
is_taken read brought around done more going = record { fill = refl; names = refl; going = refl }
is_taken read brought around (leaf kind place next) more going =
    let later = is_taken read brought around next more (with_prefixes (registered kind place) going) in
    record { fill = ap (leaf_filled (leaf kind place)) later.fill; names = later.names; going = later.going }
is_taken read brought around (broken fault next) more going =
    let later = is_taken read brought around next more going in
    record { fill = ap (leaf_filled (broken fault)) later.fill; names = later.names; going = later.going }
is_taken read brought around (included d entry body next) more going =
    let inner : Inner = read around d going in
    let after : Going = with_prefixes (brought_at d.place.byte brought) inner.going in
    let later = is_taken read brought around next more after in
    record {
      fill = ap (leaf_filled (included d inner.entry inner.nodes)) later.fill;
      names = ap (λ n. inner.names ++ n) later.names
          ∙ sym (append_assoc inner.names (nodes_read read brought around next after).names (taken read brought more (nodes_read read brought around next after).going).names);
      going = later.going;
    }
is_taken read brought around (element opened body next) more going =
    in_element (append_assoc (steps_of (level_within around) body) (steps_of around next) more) (is_taken read brought (level_within around) body (steps_of around next ++ more) going)
    (is_taken read brought around next more (nodes_read read brought (level_within around) body going).going)
  where
    inner : Spliced
    inner = nodes_read read brought (level_within around) body going

    later : Spliced
    later = nodes_read read brought around next inner.going

    last : Taken
    last = taken read brought more later.going

    rest : Taken
    rest = taken read brought (steps_of around next ++ more) inner.going

    in_element : {steps : List Step} → steps ≡ steps_of (level_within around) body ++ (steps_of around next ++ more)
        → IsTaken body (taken read brought (steps_of (level_within around) body ++ (steps_of around next ++ more)) going) rest inner
        → IsTaken next rest last later
        → IsTaken (element opened body next) (taken read brought steps going) last (nodes_read read brought around (element opened body next) going)
    in_element {steps} is one two = record {
      fill = ap (λ s. filled (element opened body next) (taken read brought s going).found) is
          ∙ ap (λ f. leaf_filled (element opened f.nodes) (filled next f.left)) one.fill
          ∙ ap (leaf_filled (element opened inner.nodes)) two.fill;
      names = ap (λ s. (taken read brought s going).names) is ∙ one.names ∙ ap (λ n. inner.names ++ n) two.names ∙ sym (append_assoc inner.names later.names last.names);
      going = ap (λ s. (taken read brought s going).going) is ∙ one.going ∙ two.going;
    }

-- what the steps of nodes come to fills the nodes as they are read
alone : (read : ℕ → Directive → Going → Inner) (brought : List BroughtPrefixes) (around : ℕ) (nodes : InPlace) (going : Going)
    → IsTaken nodes (taken read brought (steps_of around nodes) going) (record { found = []; names = []; going = (nodes_read read brought around nodes going).going }) (nodes_read read brought around nodes going)
alone read brought around nodes going = subst P (append-nil (steps_of around nodes)) (is_taken read brought around nodes [] going)
  where
    P : List Step → Type 0
    P steps = IsTaken nodes (taken read brought steps going) (record { found = []; names = []; going = (nodes_read read brought around nodes going).going }) (nodes_read read brought around nodes going)

pub nodes_filled : (read : ℕ → Directive → Going → Inner) (brought : List BroughtPrefixes) (around : ℕ) (nodes : InPlace) (going : Going)
    → (filled nodes (taken read brought (steps_of around nodes) going).found).nodes ≡ (nodes_read read brought around nodes going).nodes
nodes_filled read brought around nodes going = ap (λ f. f.nodes) (alone read brought around nodes going).fill

pub names_taken : (read : ℕ → Directive → Going → Inner) (brought : List BroughtPrefixes) (around : ℕ) (nodes : InPlace) (going : Going)
    → (taken read brought (steps_of around nodes) going).names ≡ (nodes_read read brought around nodes going).names
names_taken read brought around nodes going = (alone read brought around nodes going).names ∙ append-nil (nodes_read read brought around nodes going).names

pub going_taken : (read : ℕ → Directive → Going → Inner) (brought : List BroughtPrefixes) (around : ℕ) (nodes : InPlace) (going : Going)
    → (taken read brought (steps_of around nodes) going).going ≡ (nodes_read read brought around nodes going).going
going_taken read brought around nodes going = (alone read brought around nodes going).going

-- nodes are read by their steps
pub steps_read : (read : ℕ → Directive → Going → Inner) (brought : List BroughtPrefixes) (around : ℕ) (nodes : InPlace) (old new : Gone) (steps : List Step) (made found : List FoundNodes)
    → steps ≡ steps_of around nodes → made ≡ []
    → taken_of found new ≡ both_taken (taken_of made old) (taken read brought steps old.going)
    → (map found_of found ≡ (taken read brought (steps_of around nodes) old.going).found) × (new ≡ behind_file old (nodes_read read brought around nodes old.going))
steps_read read brought around nodes old new steps made found is_steps is_made is = (
  ap (λ (t : Taken). t.found) all,
  ap (λ (t : Taken). gone t.names t.going) all ∙ ap (λ n. gone (old.names ++ n) whole.going) (names_taken read brought around nodes old.going)
      ∙ ap (λ g. gone (old.names ++ (nodes_read read brought around nodes old.going).names) g) (going_taken read brought around nodes old.going),
)
  where
    whole : Taken
    whole = taken read brought (steps_of around nodes) old.going

    all : taken_of found new ≡ record { found = whole.found; names = old.names ++ whole.names; going = whole.going }
    all = is ∙ ap (λ m. both_taken (taken_of m old) (taken read brought steps old.going)) is_made ∙ ap (λ s. both_taken (taken_of [] old) (taken read brought s old.going)) is_steps
