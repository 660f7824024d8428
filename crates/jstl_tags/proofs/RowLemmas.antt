-- The faults of an action are those of what stands in its body.
use Rattle.std.proofs.Common.{◌≡◌, ℕ, Bool, true, false, cond, List, [], ◌++◌, refl, sym, ap, ◌∙◌}
use Rattle.std.specs.Prelude.{◌&&◌, not, codes}
use Rattle.pg_text.specs.declared.translation_fault.TranslationFault.{TranslationFault}
use Rattle.pg_text.specs.declared.translation_fault.TranslationFault.TheVariants as fault
use Rattle.page_pieces.specs.declared.piece.Tag.{Tag}
use Rattle.page_pieces.specs.Settings.{contains_text}
use Rattle.page_reader.specs.Trees.{Tree, Opened}
use Rattle.page_directives.specs.Faults.{fault_if}
use Rattle.jstl_tags.specs.declared.core_name.CoreName.{CoreName}
use Rattle.jstl_tags.specs.declared.core_name.CoreName.TheVariants as core
use Rattle.jstl_tags.specs.declared.rows.Holds.{Holds}
use Rattle.jstl_tags.specs.declared.rows.Holds.TheVariants as holds
use Rattle.jstl_tags.specs.Check.{are_set_well, body_faults, given_faults, is_branch, is_core, is_param, is_whole, own_faults, parted_faults, row_faults, split_faults, stands_beside}
use Rattle.jstl_tags.specs.Content.{attribute_names, body_of, given_names, has_element, has_other, has_two, inner, is_empty, is_part, is_split, is_standard, takes_parts}
use Rattle.jstl_tags.specs.ReadCheck.{action_by, beside_by, body_in, holds_by, names_in, own_by, own_of, row_by, split_by, split_in}
use Rattle.jstl_tags.specs.Rows.{Row}
use Rattle.jstl_tags.specs.Standing.{Standing, standing_in}
use Rattle.jstl_tags.specs.ReadStanding.{element_stands, nothing_stands, other_stands}
use Rattle.jstl_tags.proofs.StandingLemmas.{element_is, empty_is, other_is, part_names_are, two_is}

split_is : (t : Tag) (tree : Tree) → is_split t tree ≡ split_in t (standing_in tree)
split_is t tree = ap (λ b. takes_parts t && b) (element_is is_part tree)

within_is : (t : Tag) (tree : Tree) → standing_in (body_of t tree) ≡ body_in t (standing_in tree) (standing_in (inner tree))
within_is t tree = by_split (is_split t tree) ∙ ap (λ b. cond b (standing_in (inner tree)) (standing_in tree)) (split_is t tree)
  where
    by_split : (b : Bool) → standing_in (cond b (inner tree) tree) ≡ cond b (standing_in (inner tree)) (standing_in tree)
    by_split true = refl
    by_split false = refl

names_are : (t : Tag) (tree : Tree) → given_names t tree ≡ names_in t (standing_in tree)
names_are t tree = ap (λ names. attribute_names t.attributes ++ cond (takes_parts t) names []) (part_names_are tree)

parted_are : (beside : Bool) (t : Tag) (tree : Tree) → parted_faults beside t tree ≡ split_by (split_in t (standing_in tree)) beside (standing_in tree)
parted_are beside t tree =
    ap (λ b. cond b (fault_if beside fault.BadBody ++ fault_if (has_two (is_standard (codes "body")) tree) fault.BadNesting) []) (split_is t tree)
    ∙ ap (λ b. cond (split_in t (standing_in tree)) (fault_if beside fault.BadBody ++ fault_if b fault.BadNesting) []) (two_is (is_standard (codes "body")) tree)

splits_are : (t : Tag) (tree : Tree) → split_faults t tree ≡ split_by (split_in t (standing_in tree)) (other_stands is_part (standing_in tree)) (standing_in tree)
unfolding split_faults
splits_are t tree =
    parted_are (has_other is_part tree) t tree ∙ ap (λ b. split_by (split_in t (standing_in tree)) b (standing_in tree)) (other_is is_part tree)

beside_is : (library : List ℕ → Bool) (kind : Holds) (tree : Tree) → stands_beside library kind tree ≡ beside_by library kind (standing_in tree)
beside_is library holds.Anything tree = other_is is_part tree
beside_is library holds.Nothing tree = other_is is_part tree
beside_is library holds.Params tree = other_is is_part tree
beside_is library holds.Branches tree =
    ap (λ b. cond b (has_other is_part tree) (has_element (is_branch library) tree)) (element_is (is_standard (codes "attribute")) tree)
    ∙ (ap (λ b. cond (element_stands (is_standard (codes "attribute")) (standing_in tree)) b (has_element (is_branch library) tree)) (other_is is_part tree)
    ∙ ap (λ b. cond (element_stands (is_standard (codes "attribute")) (standing_in tree)) (other_stands is_part (standing_in tree)) b) (element_is (is_branch library) tree))

bodies_are : (library : List ℕ → Bool) (kind : Holds) (opened : Opened) (tree : Tree)
    → body_faults library kind opened tree ≡ holds_by library kind opened.closing (standing_in (body_of opened.tag tree))
unfolding body_faults
bodies_are library holds.Anything opened tree = refl
bodies_are library holds.Nothing opened tree = ap (λ b. fault_if (not b) fault.BadBody) (empty_is (body_of opened.tag tree))
bodies_are library holds.Params opened tree = ap (λ b. fault_if b fault.BadBody) (other_is (is_param library) (body_of opened.tag tree))
bodies_are library holds.Branches opened tree = ap (λ b. fault_if (is_whole opened.closing && not b) fault.BadBody) (element_is (is_core library (codes "when")) (body_of opened.tag tree))

-- the faults of an action by its row
pub rows_are : (library : List ℕ → Bool) (row : Row) (opened : Opened) (tree : Tree)
    → row_faults library row opened tree ≡ row_by library row opened.closing (split_in opened.tag (standing_in tree))
    (beside_by library row.holds (standing_in tree)) (standing_in tree) (body_in opened.tag (standing_in tree) (standing_in (inner tree))) (names_in opened.tag (standing_in tree))
unfolding row_faults
rows_are library row opened tree =
    ap (λ names. given_faults row opened.closing names ++ (parted_faults (stands_beside library row.holds tree) opened.tag tree ++ held)) (names_are opened.tag tree)
    ∙ (ap (λ faults. given_faults row opened.closing names ++ (faults ++ held))
    (parted_are (stands_beside library row.holds tree) opened.tag tree ∙ ap (λ b. split_by split b (standing_in tree)) (beside_is library row.holds tree))
    ∙ ap (λ faults. given_faults row opened.closing names ++ (split_by split (beside_by library row.holds (standing_in tree)) (standing_in tree) ++ faults))
    (bodies_are library row.holds opened tree
    ∙ ap (holds_by library row.holds opened.closing) (within_is opened.tag tree)))
  where
    split : Bool
    split = split_in opened.tag (standing_in tree)

    names : List (List ℕ)
    names = names_in opened.tag (standing_in tree)

    held : List TranslationFault
    held = body_faults library row.holds opened tree

-- an action's faults by its row are those by what stands in its body
pub action_is : (library : List ℕ → Bool) (row : Row) (opened : Opened) (tree : Tree) (standing within : List Standing) → standing ≡ standing_in tree → within ≡ standing_in (inner tree)
    → action_by library row opened standing within ≡ row_faults library row opened tree
action_is library row opened tree standing within e g =
    ap (λ s. action_by library row opened s within) e ∙ (ap (action_by library row opened (standing_in tree)) g ∙ sym (rows_are library row opened tree))

own_in : (name : CoreName) (opened : Opened) (tree : Tree) (given : List (List ℕ))
    → own_faults name opened tree given ≡ own_by name opened.closing (standing_in (body_of opened.tag tree)) given
unfolding own_faults
own_in core.Set opened tree given =
    ap (λ b. fault_if (contains_text (codes "var") given && contains_text (codes "target") given) fault.BadAttribute
    ++ (fault_if (is_whole opened.closing && not (are_set_well (contains_text (codes "var") given) (contains_text (codes "target") given) (contains_text (codes "property") given))) fault.BadAttribute
    ++ fault_if (is_whole opened.closing && (contains_text (codes "value") given && b)) fault.BadBody))
    (other_is (λ t. false) (body_of opened.tag tree))
own_in core.ForEach opened tree given = refl
own_in core.Out opened tree given = refl
own_in core.Remove opened tree given = refl
own_in core.Catch opened tree given = refl
own_in core.If opened tree given = refl
own_in core.Choose opened tree given = refl
own_in core.When opened tree given = refl
own_in core.Otherwise opened tree given = refl
own_in core.ForTokens opened tree given = refl
own_in core.Import opened tree given = refl
own_in core.Url opened tree given = refl
own_in core.Redirect opened tree given = refl
own_in core.Param opened tree given = refl

pub own_is : (name : CoreName) (opened : Opened) (tree : Tree) (standing within : List Standing) → standing ≡ standing_in tree → within ≡ standing_in (inner tree)
    → own_of name opened standing within ≡ own_faults name opened tree (given_names opened.tag tree)
own_is name opened tree standing within e g =
    ap (λ s. own_of name opened s within) e
    ∙ (ap (own_of name opened (standing_in tree)) g
    ∙ (ap (λ body. own_by name opened.closing body (names_in opened.tag (standing_in tree))) (sym (within_is opened.tag tree))
    ∙ (sym (own_in name opened tree (names_in opened.tag (standing_in tree))) ∙ ap (own_faults name opened tree) (sym (names_are opened.tag tree)))))

-- what stands in the body of an element is nothing where its body is empty
pub bodiless_is : (t : Tag) (tree : Tree) (standing within : List Standing) → standing ≡ standing_in tree → within ≡ standing_in (inner tree)
    → nothing_stands (body_in t standing within) ≡ is_empty (body_of t tree)
bodiless_is t tree standing within e g =
    ap (λ s. nothing_stands (body_in t s within)) e
    ∙ (ap (λ s. nothing_stands (body_in t (standing_in tree) s)) g
    ∙ (ap nothing_stands (sym (within_is t tree)) ∙ sym (empty_is (body_of t tree))))

-- the faults of what stands beside parts
pub parts_are : (t : Tag) (tree : Tree) (standing : List Standing) (split beside : Bool) → standing ≡ standing_in tree → split ≡ split_in t standing
    → beside ≡ other_stands is_part standing → split_by split beside standing ≡ split_faults t tree
parts_are t tree standing split beside e g h =
    ap (λ b. split_by b beside standing) g
    ∙ (ap (λ b. split_by (split_in t standing) b standing) h
    ∙ (ap (λ s. split_by (split_in t s) (other_stands is_part s) s) e ∙ sym (splits_are t tree)))

-- the names that are given
pub given_is : (t : Tag) (tree : Tree) (standing : List Standing) → standing ≡ standing_in tree → names_in t standing ≡ given_names t tree
given_is t tree standing e = ap (names_in t) e ∙ sym (names_are t tree)

-- the parts of an action that its faults are judged by
pub action_parts : (library : List ℕ → Bool) (row : Row) (opened : Opened) (standing within : List Standing) (split beside : Bool) (body : List Standing) (names : List (List ℕ))
    → split ≡ split_in opened.tag standing → beside ≡ beside_by library row.holds standing → body ≡ body_in opened.tag standing within → names ≡ names_in opened.tag standing
    → row_by library row opened.closing split beside standing body names ≡ action_by library row opened standing within
action_parts library row opened standing within split beside body names e f g h =
    ap (λ b. row_by library row opened.closing b beside standing body names) e
    ∙ (ap (λ b. row_by library row opened.closing (split_in opened.tag standing) b standing body names) f
    ∙ (ap (λ ys. row_by library row opened.closing (split_in opened.tag standing) (beside_by library row.holds standing) standing ys names) g
    ∙ ap (row_by library row opened.closing (split_in opened.tag standing) (beside_by library row.holds standing) standing (body_in opened.tag standing within)) h))
