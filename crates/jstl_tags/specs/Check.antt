-- The faults of an action by its row, and those of a core tag.
use Rattle.std.specs.Prelude.{ℕ, Bool, true, false, not, ◌&&◌, ◌||◌, List, [], ◌∷◌, ◌++◌, codes, Option, Some, None, Result, Ok, Err, if◌then◌else◌}
use Rattle.std.specs.List.{list_any}
use Rattle.std.specs.Str.{bytes_eq}
use Rattle.pg_text.specs.declared.translation_fault.TranslationFault.{TranslationFault}
use Rattle.pg_text.specs.declared.translation_fault.TranslationFault.TheVariants as fault
use Rattle.page_pieces.specs.declared.attribute.Part.{Part}
use Rattle.page_pieces.specs.declared.attribute.Part.TheVariants as parts
use Rattle.page_reader.specs.declared.node.Closing.{Closing}
use Rattle.page_reader.specs.declared.node.Closing.TheVariants as closings
use Rattle.page_pieces.specs.declared.piece.Tag.{Tag}
use Rattle.page_pieces.specs.Settings.{contains_text, plain_text}
use Rattle.page_reader.specs.Trees.{Tree, Opened}
use Rattle.el_reader.specs.declared.fault.ElFault.{ElFault}
use Rattle.el_reader.specs.Tree as el
use Rattle.page_directives.specs.Checks.{truths}
use Rattle.page_directives.specs.Directive.{row_of}
use Rattle.page_directives.specs.Faults.{fault_if}
use Rattle.jstl_tags.specs.declared.core_name.CoreName.{CoreName}
use Rattle.jstl_tags.specs.declared.core_name.CoreName.TheVariants as core
use Rattle.jstl_tags.specs.declared.rows.Takes.{Takes}
use Rattle.jstl_tags.specs.declared.rows.Takes.TheVariants as takes
use Rattle.jstl_tags.specs.declared.rows.Holds.{Holds}
use Rattle.jstl_tags.specs.declared.rows.Holds.TheVariants as holds
use Rattle.jstl_tags.specs.declared.rows.Stands.{Stands}
use Rattle.jstl_tags.specs.declared.rows.Stands.TheVariants as stands
use Rattle.jstl_tags.specs.Rows.{Row}
use Rattle.jstl_tags.specs.Content.{is_standard, is_empty, has_other, has_element, has_two, is_part, is_split, body_of, given_names}
use Rattle.jstl_tags.specs.Around.{Host, core_host, standard_host, other_host, Around, host_of, in_choose, in_text}
use Rattle.el_reader.specs.ExpressionOf.{expression_of}

-- whether a name stands twice
abbrev pub repeats : List (List ℕ) → Bool
repeats [] = false
repeats (name ∷ names) = contains_text name names || repeats names

-- the fault of a name that the row doesn't have, or that is left out
abbrev pub name_faults : Option Takes → List TranslationFault
name_faults None = fault.BadAttribute ∷ []
name_faults (Some takes.LeftOut) = fault.LeftOut ∷ []
name_faults (Some other) = []

abbrev pub names_faults : Row → List (List ℕ) → List TranslationFault
names_faults row [] = []
names_faults row (name ∷ names) = name_faults (row_of name row.attributes) ++ names_faults row names

-- one of these names isn't among those that are given
abbrev pub lacks : List (List ℕ) → List (List ℕ) → Bool
lacks wanted given = list_any (λ name. not (contains_text name given)) wanted

-- all of an element was read
abbrev pub is_whole : Closing → Bool
is_whole closings.Open = false
is_whole _ = true

-- the faults of the names that are given; what lacks is known of a whole element alone
unfoldable pub given_faults : Row → Closing → List (List ℕ) → List TranslationFault
given_faults row closing given = fault_if (repeats given) fault.BadAttribute ++ (names_faults row given ++ fault_if (is_whole closing && lacks row.required given) fault.BadAttribute)

-- where parts give the attributes or the body: whether something is refused that stands beside them, and one `jsp:body` at most
abbrev pub parted_faults : (beside : Bool) → Tag → Tree → List TranslationFault
parted_faults beside tag body = if is_split tag body then fault_if beside fault.BadBody ++ fault_if (has_two (is_standard (codes "body")) body) fault.BadNesting else []

-- beside `jsp:attribute` and `jsp:body` nothing else stands
unfoldable pub split_faults : Tag → Tree → List TranslationFault
split_faults tag body = parted_faults (has_other is_part body) tag body

-- a core tag of that name, where this says which prefixes are the core library's
abbrev pub is_core : (List ℕ → Bool) → List ℕ → Tag → Bool
is_core library name tag = library tag.prefix && bytes_eq tag.name name

abbrev pub is_param : (List ℕ → Bool) → Tag → Bool
is_param library tag = is_standard (codes "param") tag || is_core library (codes "param") tag

-- a branch of a choice
abbrev pub is_branch : (List ℕ → Bool) → Tag → Bool
is_branch library tag = is_core library (codes "when") tag || is_core library (codes "otherwise") tag

-- what is refused beside parts: in a choice without `jsp:attribute` its branches, since all else has a fault at its own place; else anything
abbrev pub stands_beside : (List ℕ → Bool) → Holds → Tree → Bool
stands_beside library holds.Branches body = if has_element (is_standard (codes "attribute")) body then has_other is_part body else has_element (is_branch library) body
stands_beside library _ body = has_other is_part body

-- the faults of what a body holds
unfoldable pub body_faults : (List ℕ → Bool) → Holds → Opened → Tree → List TranslationFault
body_faults library holds.Anything opened body = []
body_faults library holds.Nothing opened body = fault_if (not (is_empty (body_of opened.tag body))) fault.BadBody
body_faults library holds.Params opened body = fault_if (has_other (is_param library) (body_of opened.tag body)) fault.BadBody
body_faults library holds.Branches opened body = fault_if (is_whole opened.closing && not (has_element (is_core library (codes "when")) (body_of opened.tag body))) fault.BadBody

-- the faults of an action by its row
unfoldable pub row_faults : (List ℕ → Bool) → Row → Opened → Tree → List TranslationFault
row_faults library row opened body =
    given_faults row opened.closing (given_names opened.tag body) ++ (parted_faults (stands_beside library row.holds body) opened.tag body ++ body_faults library row.holds opened body)

-- the faults of an element that stands in a choice or in a text, and is no part of it
abbrev pub child_faults : Around → List TranslationFault
child_faults around = fault_if (in_choose around) fault.BadNesting ++ fault_if (in_text around) fault.BadBody

-- the faults of a part, or of a branch, that stands outside its place
abbrev pub misplaced_faults : Around → List TranslationFault
misplaced_faults around = fault.BadNesting ∷ child_faults around

abbrev pub unless_part : Bool → Around → List TranslationFault
unless_part is_part around = if is_part then [] else misplaced_faults around

-- a core param stands in an import, a url or a redirect
abbrev pub takes_core_params : Option Host → Bool
takes_core_params (Some (core_host core.Import o)) = true
takes_core_params (Some (core_host core.Url o)) = true
takes_core_params (Some (core_host core.Redirect o)) = true
takes_core_params _ = false

-- a standard param stands in an include or a forward
abbrev pub takes_params : Option Host → Bool
takes_params (Some (standard_host name)) = contains_text name (codes "include" ∷ codes "forward" ∷ [])
takes_params _ = false

-- a part stands in an action that takes parts
abbrev pub host_takes_part : Host → Bool
host_takes_part other_host = false
host_takes_part (standard_host name) = not (contains_text name (codes "attribute" ∷ codes "body" ∷ codes "text" ∷ []))
host_takes_part host = true

abbrev pub takes_part : Around → Bool
takes_part [] = false
takes_part (host ∷ around) = host_takes_part host

-- a branch stands in a choice, and none behind an `otherwise`
abbrev pub branch_faults : Option Host → (misplaced : List TranslationFault) → List TranslationFault
branch_faults (Some (core_host core.Choose otherwise)) misplaced = fault_if otherwise fault.BadNesting
branch_faults _ misplaced = misplaced

-- the faults of where an element stands
unfoldable pub place_faults : (in_tag : Bool) → Stands → Around → List TranslationFault
place_faults in_tag stands.Anywhere around = child_faults around
place_faults in_tag stands.CoreParam around = unless_part (takes_core_params (host_of around)) around
place_faults in_tag stands.StandardParam around = unless_part (takes_params (host_of around)) around
place_faults in_tag stands.Branch around = branch_faults (host_of around) (misplaced_faults around)
place_faults in_tag stands.Part around = unless_part (takes_part around) around
place_faults in_tag stands.InTagFile around = fault_if (not in_tag) fault.BadNesting ++ child_faults around

-- exactly one of `var` and `target` is given, and `property` with `target` alone
abbrev pub are_set_well : (var target property : Bool) → Bool
are_set_well true false false = true
are_set_well false true true = true
are_set_well _ _ _ = false

-- what a row doesn't say: of `c:set`, its three names and that a value and a body exclude each other; of a loop without items, its ends
unfoldable pub own_faults : CoreName → Opened → Tree → List (List ℕ) → List TranslationFault
own_faults core.Set opened body given =
    fault_if (contains_text (codes "var") given && contains_text (codes "target") given) fault.BadAttribute
    ++ (fault_if (is_whole opened.closing && not (are_set_well (contains_text (codes "var") given) (contains_text (codes "target") given) (contains_text (codes "property") given))) fault.BadAttribute
    ++ fault_if (is_whole opened.closing && (contains_text (codes "value") given && has_other (λ tag. false) (body_of opened.tag body))) fault.BadBody)
own_faults core.ForEach opened body given =
    fault_if (is_whole opened.closing && (not (contains_text (codes "items") given) && lacks (codes "begin" ∷ codes "end" ∷ []) given)) fault.BadAttribute
own_faults _ opened body given = []

-- the faults of a core tag at its beginning
unfoldable pub core_faults : (List ℕ → Bool) → CoreName × Row → Around → Opened → Tree → List TranslationFault
core_faults library found around opened body =
    place_faults false found.1.stands around ++ (row_faults library found.1 opened body ++ own_faults found.0 opened body (given_names opened.tag body))

abbrev pub scope_names : List (List ℕ)
scope_names = codes "page" ∷ codes "request" ∷ codes "session" ∷ codes "application" ∷ []

abbrev pub is_text_in : List (List ℕ) → Option (List ℕ) → Bool
is_text_in texts None = false
is_text_in texts (Some text) = contains_text text texts

abbrev pub is_some_text : Option (List ℕ) → Bool
is_some_text None = false
is_some_text (Some text) = true

-- an expression is a name, or has a fault of its own
abbrev pub may_be_name : Result el.Tree ElFault → Bool
may_be_name (Ok (el.name n)) = true
may_be_name (Ok other) = false
may_be_name (Err fault) = true

abbrev pub is_one_name : List Part → Bool
is_one_name (parts.Expr text ∷ []) = may_be_name (expression_of text)
is_one_name _ = false

-- the faults of a value by what its attribute takes
unfoldable pub taken_faults : Option Takes → List Part → List TranslationFault
taken_faults (Some takes.PlainText) value = fault_if (not (is_some_text (plain_text value))) fault.BadAttribute
taken_faults (Some takes.TruthValue) value = fault_if (not (is_text_in truths (plain_text value))) fault.BadAttribute
taken_faults (Some takes.ScopeName) value = fault_if (not (is_text_in scope_names (plain_text value))) fault.BadAttribute
taken_faults (Some takes.OneName) value = fault_if (not (is_one_name value)) fault.LeftOut
taken_faults _ value = []
