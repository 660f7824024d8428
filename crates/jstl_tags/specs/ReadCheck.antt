-- The faults of an action by what stands in its body. No public contract speaks of it: that it is what the definition says is proved.
use Rattle.std.specs.Prelude.{ℕ, Bool, false, not, ◌&&◌, List, [], ◌∷◌, ◌++◌, codes, if◌then◌else◌}
use Rattle.pg_text.specs.declared.translation_fault.TranslationFault.{TranslationFault}
use Rattle.pg_text.specs.declared.translation_fault.TranslationFault.TheVariants as fault
use Rattle.page_pieces.specs.declared.piece.Tag.{Tag}
use Rattle.page_pieces.specs.Settings.{contains_text}
use Rattle.page_reader.specs.declared.node.Closing.{Closing}
use Rattle.page_reader.specs.Trees.{Opened}
use Rattle.page_directives.specs.Faults.{fault_if}
use Rattle.jstl_tags.specs.declared.core_name.CoreName.{CoreName}
use Rattle.jstl_tags.specs.declared.core_name.CoreName.TheVariants as core
use Rattle.jstl_tags.specs.declared.rows.Holds.{Holds}
use Rattle.jstl_tags.specs.declared.rows.Holds.TheVariants as holds
use Rattle.jstl_tags.specs.Check.{are_set_well, given_faults, is_branch, is_core, is_param, is_whole, lacks}
use Rattle.jstl_tags.specs.Content.{attribute_names, is_part, is_standard, takes_parts}
use Rattle.jstl_tags.specs.Rows.{Row}
use Rattle.jstl_tags.specs.Standing.{Standing, part_names_in}
use Rattle.jstl_tags.specs.ReadStanding.{element_stands, nothing_stands, other_stands, two_stand}

-- where parts give the attributes or the body: whether something is refused that stands beside them, and one `jsp:body` at most
abbrev pub split_by : (split beside : Bool) → List Standing → List TranslationFault
split_by split beside standing = if split then fault_if beside fault.BadBody ++ fault_if (two_stand (is_standard (codes "body")) standing) fault.BadNesting else []

-- what is refused beside parts
abbrev pub beside_by : (List ℕ → Bool) → Holds → List Standing → Bool
beside_by library holds.Branches standing =
    if element_stands (is_standard (codes "attribute")) standing then other_stands is_part standing else element_stands (is_branch library) standing
beside_by library _ standing = other_stands is_part standing

-- the faults of what a body holds
abbrev pub holds_by : (List ℕ → Bool) → Holds → Closing → (body : List Standing) → List TranslationFault
holds_by library holds.Anything closing body = []
holds_by library holds.Nothing closing body = fault_if (not (nothing_stands body)) fault.BadBody
holds_by library holds.Params closing body = fault_if (other_stands (is_param library) body) fault.BadBody
holds_by library holds.Branches closing body = fault_if (is_whole closing && not (element_stands (is_core library (codes "when")) body)) fault.BadBody

-- the faults of an action by its row
abbrev pub row_by : (List ℕ → Bool) → Row → Closing → (split beside : Bool) → (standing body : List Standing) → (given : List (List ℕ)) → List TranslationFault
row_by library row closing split beside standing body given = given_faults row closing given ++ (split_by split beside standing ++ holds_by library row.holds closing body)

-- what a row doesn't say
abbrev pub own_by : CoreName → Closing → (body : List Standing) → (given : List (List ℕ)) → List TranslationFault
own_by core.Set closing body given =
    fault_if (contains_text (codes "var") given && contains_text (codes "target") given) fault.BadAttribute
    ++ (fault_if (is_whole closing && not (are_set_well (contains_text (codes "var") given) (contains_text (codes "target") given) (contains_text (codes "property") given))) fault.BadAttribute
    ++ fault_if (is_whole closing && (contains_text (codes "value") given && other_stands (λ t. false) body)) fault.BadBody)
own_by core.ForEach closing body given =
    fault_if (is_whole closing && (not (contains_text (codes "items") given) && lacks (codes "begin" ∷ codes "end" ∷ []) given)) fault.BadAttribute
own_by _ closing body given = []

-- the attributes or the body are given by parts
abbrev pub split_in : Tag → List Standing → Bool
split_in t standing = takes_parts t && element_stands is_part standing

-- what stands in the body of an element, which may be given by `jsp:body`
abbrev pub body_in : Tag → (standing within : List Standing) → List Standing
body_in t standing within = if split_in t standing then within else standing

-- the names of all attributes that are given
abbrev pub names_in : Tag → List Standing → List (List ℕ)
names_in t standing = attribute_names t.attributes ++ (if takes_parts t then part_names_in standing else [])

-- the faults of an action by its row and what stands in its body
abbrev pub action_by : (List ℕ → Bool) → Row → Opened → (standing within : List Standing) → List TranslationFault
action_by library row opened standing within =
    row_by library row opened.closing (split_in opened.tag standing) (beside_by library row.holds standing) standing (body_in opened.tag standing within) (names_in opened.tag standing)

-- the faults of a core tag that its row doesn't say
abbrev pub own_of : CoreName → Opened → (standing within : List Standing) → List TranslationFault
own_of name opened standing within = own_by name opened.closing (body_in opened.tag standing within) (names_in opened.tag standing)
