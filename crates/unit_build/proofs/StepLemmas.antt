-- The steps of a page or a tag file are its walk.
use Rattle.std.proofs.Common.{◌≡◌, ◌<◌, ◌-◌, ◌+◌, ℕ, zero, suc, Bool, true, false, cond, List, [], ◌∷◌, ◌++◌, refl, ap, sym, ◌∙◌, append_assoc, arith, length, drop, get_or}
use Rattle.std.proofs.lemmas.List.{append-nil}
use Rattle.page_directives.specs.Directive.{Directive}
use Rattle.unit_source.specs.Files.{Files}
use Rattle.unit_source.specs.InPlace.{InPlace, done, leaf, element, broken, included, flat, followed}
use Rattle.unit_source.specs.declared.placed.PlacedNode.{PlacedNode}
use Rattle.unit_source.specs.Placed.{in_place, node_in_place}
use Rattle.unit_source.specs.Root.{Root}
use Rattle.unit_words.specs.Calls.{Called}
use Rattle.unit_words.specs.Directives.{include_met, goes_in}
use Rattle.unit_words.specs.Elements.{Here, within}
use Rattle.unit_words.specs.Kinds.{Kind, kind_of}
use Rattle.unit_words.specs.State.{State, Reading, met, ◌>>◌, faulty}
use Rattle.unit_words.specs.State as state
use Rattle.unit_words.specs.Walk.{leaf_met, nested, file_met, start_met, tag_met, behind, behind_all, met_if, walk}
use Rattle.unit_build.specs.ReadSteps.{Step, leaf_step, break_step, start_step, include_step, end_step, left_out, steps_of, steps_met}
use Rattle.unit_judges.proofs.PlacedLemmas.{drop_node}

then_then : (r : Reading) (m n : State → Reading) → ((r >> m) >> n) ≡ (r >> (λ s. m s >> n))
then_then r m n = ap (λ events. met events (n (m r.state).state).state) (append_assoc r.events (m r.state).events (n (m r.state).state).events)

and_then : (r : Reading) (m n : State → Reading) → m r.state ≡ n r.state → (r >> m) ≡ (r >> n)
and_then r m n e = ap (state.followed r.events) e

pub behind_followed : (directives : List Directive) (a b : InPlace) (here : Here) → behind_all directives (followed a b) here ≡ behind_all directives b (behind_all directives a here)
behind_followed directives done b here = refl
behind_followed directives (leaf kind place next) b here = behind_followed directives next b here
behind_followed directives (element opened body next) b here = behind_followed directives next b (behind (kind_of directives opened.tag) here)
behind_followed directives (broken fault next) b here = behind_followed directives next b here
behind_followed directives (included d entry body next) b here = behind_followed directives next b (behind_all directives body here)

pub steps_followed : (directives : List Directive) (a b : InPlace) (here : Here)
    → steps_of directives here (followed a b) ≡ steps_of directives here a ++ steps_of directives (behind_all directives a here) b
steps_followed directives done b here = refl
steps_followed directives (leaf kind place next) b here = ap (λ steps. leaf_step here kind place ∷ steps) (steps_followed directives next b here)
steps_followed directives (broken fault next) b here = ap (λ steps. break_step fault ∷ steps) (steps_followed directives next b here)
steps_followed directives (element opened body next) b here =
    let kind = kind_of directives opened.tag in
    let inner : List Step = steps_of directives (within kind opened.tag here) body in
    ap (λ steps. start_step here kind opened (flat body) ∷ (inner ++ steps)) (steps_followed directives next b (behind kind here))
    ∙ ap (λ steps. start_step here kind opened (flat body) ∷ steps)
    (sym (append_assoc inner (steps_of directives (behind kind here) next) (steps_of directives (behind_all directives next (behind kind here)) b)))
steps_followed directives (included d entry body next) b here =
    let inner : List Step = steps_of directives here body in
    let later : Here = behind_all directives body here in
    ap (λ steps. include_step d entry ∷ (inner ++ end_step ∷ steps)) (steps_followed directives next b later)
    ∙ ap (λ steps. include_step d entry ∷ steps) (sym (append_assoc inner (end_step ∷ steps_of directives later next) (steps_of directives (behind_all directives next later) b)))

-- the steps of an element and of an include directive alone
pub element_steps : (directives : List Directive) (here : Here) (opened : _) (body : InPlace) → steps_of directives here (element opened body done)
    ≡ start_step here (kind_of directives opened.tag) opened (flat body) ∷ steps_of directives (within (kind_of directives opened.tag) opened.tag here) body
element_steps directives here opened body = ap (λ steps. start_step here (kind_of directives opened.tag) opened (flat body) ∷ steps) (append-nil _)

pub include_steps : (directives : List Directive) (here : Here) (d : Directive) (entry : _) (body : InPlace)
    → steps_of directives here (included d entry body done) ≡ include_step d entry ∷ (steps_of directives here body ++ end_step ∷ [])
include_steps directives here d entry body = refl

-- one more node was looked at
pub next_here : (directives : List Directive) (all : List PlacedNode) (i : ℕ) (node : PlacedNode) (here mid goal : Here) → i < length all → node ≡ get_or all i node
    → behind_all directives (in_place (drop i all)) here ≡ goal → mid ≡ behind_all directives (node_in_place node) here → behind_all directives (in_place (drop (i + 1) all)) mid ≡ goal
next_here directives all i node here mid goal lt is whole more =
    ap (behind_all directives (in_place (drop (i + 1) all))) more
    ∙ sym (behind_followed directives (node_in_place node) (in_place (drop (i + 1) all)) here)
    ∙ ap (λ nodes. behind_all directives (in_place nodes) here) (sym (drop_node all i node lt is)) ∙ whole

pub next_steps : (directives : List Directive) (all : List PlacedNode) (i : ℕ) (node : PlacedNode) (here mid : Here) (before after goal : List Step) → i < length all → node ≡ get_or all i node
    → before ++ steps_of directives here (in_place (drop i all)) ≡ goal → mid ≡ behind_all directives (node_in_place node) here
    → after ≡ before ++ steps_of directives here (node_in_place node) → after ++ steps_of directives mid (in_place (drop (i + 1) all)) ≡ goal
next_steps directives all i node here mid before after goal lt is whole more steps =
    ap (λ h. after ++ steps_of directives h rest) more
    ∙ ap (λ steps. steps ++ steps_of directives (behind_all directives first here) rest) steps
    ∙ append_assoc before (steps_of directives here first) (steps_of directives (behind_all directives first here) rest)
    ∙ ap (λ steps. before ++ steps) (sym (steps_followed directives first rest here))
    ∙ ap (λ nodes. before ++ steps_of directives here (in_place nodes)) (sym (drop_node all i node lt is)) ∙ whole
  where
    first : InPlace
    first = node_in_place node

    rest : InPlace
    rest = in_place (drop (i + 1) all)

-- in so many files no step is taken
pub none_taken : (files : Files) (root : Root) (enter : Root → State → Reading) (directives : List Directive) (here : Here) (nodes : InPlace) (more : List Step) (count : ℕ) (s : State)
    → steps_met files root enter (suc count) (steps_of directives here nodes ++ more) s ≡ steps_met files root enter (suc count) more s
none_taken files root enter directives here done more count s = refl
none_taken files root enter directives here (leaf kind place next) more count s = none_taken files root enter directives here next more count s
none_taken files root enter directives here (broken fault next) more count s = none_taken files root enter directives here next more count s
none_taken files root enter directives here (element opened body next) more count s =
    let kind = kind_of directives opened.tag in
    ap (λ steps. steps_met files root enter (suc count) steps s) (append_assoc (steps_of directives (within kind opened.tag here) body) (steps_of directives (behind kind here) next) more)
    ∙ none_taken files root enter directives (within kind opened.tag here) body (steps_of directives (behind kind here) next ++ more) count s
    ∙ none_taken files root enter directives (behind kind here) next more count s
none_taken files root enter directives here (included d entry body next) more count s =
    let later : Here = behind_all directives body here in
    ap (λ steps. steps_met files root enter (suc count + 1) steps s) (append_assoc (steps_of directives here body) (end_step ∷ steps_of directives later next) more)
    ∙ ap (λ n. steps_met files root enter n (steps_of directives here body ++ end_step ∷ (steps_of directives later next ++ more)) s) (one_more count)
    ∙ none_taken files root enter directives here body (end_step ∷ (steps_of directives later next ++ more)) (suc count) s
    ∙ ap (λ n. steps_met files root enter n (steps_of directives later next ++ more) s) (one_less count)
    ∙ none_taken files root enter directives later next more count s
  where
    one_more : (n : ℕ) → suc n + 1 ≡ suc (suc n)
    one_more n = omega arith

    one_less : (n : ℕ) → suc (suc n) - 1 ≡ suc n
    one_less n = omega arith

-- the steps of nodes, and then others, are the walk through the nodes, and then these
pub walk_steps : (files : Files) (root : Root) (enter : Root → State → Reading) (here : Here) (nodes : InPlace) (more : List Step) (s : State)
    → steps_met files root enter zero (steps_of root.directives here nodes ++ more) s ≡ (walk files root enter here nodes s >> (λ s1. steps_met files root enter zero more s1))
walk_steps files root enter here done more s = refl
walk_steps files root enter here (leaf kind place next) more s =
    let first : Reading = leaf_met root here kind place s in
    let rest : State → Reading = λ s1. walk files root enter here next s1 in
    let last : State → Reading = λ s1. steps_met files root enter zero more s1 in
    and_then first (λ s1. steps_met files root enter zero (steps_of root.directives here next ++ more) s1) (λ s1. rest s1 >> last) (walk_steps files root enter here next more first.state)
    ∙ sym (then_then first rest last)
walk_steps files root enter here (broken fault next) more s =
    let first : Reading = met (faulty fault ∷ []) s in
    let rest : State → Reading = λ s1. walk files root enter here next s1 in
    let last : State → Reading = λ s1. steps_met files root enter zero more s1 in
    and_then first (λ s1. steps_met files root enter zero (steps_of root.directives here next ++ more) s1) (λ s1. rest s1 >> last) (walk_steps files root enter here next more first.state)
    ∙ sym (then_then first rest last)
walk_steps files root enter here (element opened body next) more s =
    let kind : Kind = kind_of root.directives opened.tag in
    let file : Called = file_met files kind opened.tag (nested here s) in
    let first : Reading = start_met root kind here opened (flat body) file >> (λ s1. tag_met enter file.entered s1) in
    let inner : State → Reading = λ s1. walk files root enter (within kind opened.tag here) body s1 in
    let rest : State → Reading = λ s1. walk files root enter (behind kind here) next s1 in
    let last : State → Reading = λ s1. steps_met files root enter zero more s1 in
    let body_steps : List Step = steps_of root.directives (within kind opened.tag here) body in
    let next_steps : List Step = steps_of root.directives (behind kind here) next in
    and_then first (λ s1. steps_met files root enter zero ((body_steps ++ next_steps) ++ more) s1) (λ s1. inner s1 >> (λ s2. rest s2 >> last))
    (ap (λ steps. steps_met files root enter zero steps first.state) (append_assoc body_steps next_steps more)
    ∙ walk_steps files root enter (within kind opened.tag here) body (next_steps ++ more) first.state
    ∙ and_then (inner first.state) (λ s2. steps_met files root enter zero (next_steps ++ more) s2) (λ s2. rest s2 >> last)
    (walk_steps files root enter (behind kind here) next more (inner first.state).state))
    ∙ sym (then_then first inner (λ s2. rest s2 >> last))
    ∙ sym (then_then (first >> inner) rest last)
walk_steps files root enter here (included d entry body next) more s =
    and_then first (λ s1. steps_met files root enter (left_out (include_step d entry) s) ((body_steps ++ end_step ∷ next_steps) ++ more) s1)
    (λ s1. met_if (goes_in entry s) inner s1 >> (λ s2. rest s2 >> last))
    (ap (λ steps. steps_met files root enter (left_out (include_step d entry) s) steps first.state) (append_assoc body_steps (end_step ∷ next_steps) more)
    ∙ by_entry (goes_in entry s) (walk_steps files root enter here body (end_step ∷ (next_steps ++ more)) first.state) (λ s1. walk_steps files root enter later next more s1))
    ∙ sym (then_then first (λ s1. met_if (goes_in entry s) inner s1) (λ s2. rest s2 >> last))
    ∙ sym (then_then (first >> (λ s1. met_if (goes_in entry s) inner s1)) rest last)
  where
    first : Reading
    first = include_met root d entry s

    later : Here
    later = behind_all root.directives body here

    inner : State → Reading
    inner s1 = walk files root enter here body s1

    rest : State → Reading
    rest s1 = walk files root enter later next s1

    last : State → Reading
    last s1 = steps_met files root enter zero more s1

    body_steps : List Step
    body_steps = steps_of root.directives here body

    next_steps : List Step
    next_steps = steps_of root.directives later next

    by_entry : (b : Bool) → steps_met files root enter zero (body_steps ++ end_step ∷ (next_steps ++ more)) first.state
        ≡ (inner first.state >> (λ s2. steps_met files root enter zero (end_step ∷ (next_steps ++ more)) s2))
        → ((s1 : State) → steps_met files root enter zero (next_steps ++ more) s1 ≡ (rest s1 >> last))
        → steps_met files root enter (cond b 0 1) (body_steps ++ end_step ∷ (next_steps ++ more)) first.state ≡ (met_if b inner first.state >> (λ s2. rest s2 >> last))
    by_entry true in_file behind_file =
        in_file ∙ and_then (inner first.state) (λ s2. steps_met files root enter zero (end_step ∷ (next_steps ++ more)) s2) (λ s2. rest s2 >> last) (behind_file (inner first.state).state)
    by_entry false in_file behind_file = none_taken files root enter root.directives here body (end_step ∷ (next_steps ++ more)) zero first.state ∙ behind_file first.state
