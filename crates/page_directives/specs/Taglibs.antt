-- What a taglib directive registers, and its faults.
use Rattle.std.specs.Prelude.{ℕ, Bool, true, false, not, ◌==◌, ◌||◌, List, [], ◌∷◌, ◌++◌, codes, Option, Some, None, Result, Ok, Err, length, if◌then◌else◌}
use Rattle.std.specs.Option.{is_some, option_to_list}
use Rattle.std.specs.Str.{bytes_eq}
use Rattle.pg_text.specs.declared.resolution.BadPath.{BadPath}
use Rattle.pg_text.specs.Path.{resolved, segments}
use Rattle.pg_text.specs.declared.translation_fault.TranslationFault.{TranslationFault}
use Rattle.pg_text.specs.declared.translation_fault.TranslationFault.TheVariants as fault
use Rattle.page_pieces.specs.declared.attribute.Attribute.{Attribute}
use Rattle.page_pieces.specs.Marks.{TagName, tag_name_after}
use Rattle.page_pieces.specs.Repeats.{has_name, has_repeat}
use Rattle.page_pieces.specs.Settings.{contains_text, value_of}
use Rattle.page_pieces.specs.Texts.{begins}
use Rattle.page_directives.specs.declared.target.Target.{Target}
use Rattle.page_directives.specs.declared.target.Target.TheVariants as target
use Rattle.page_directives.specs.Checks.{attribute_faults}
use Rattle.page_directives.specs.Directive.{Directive, is_named}
use Rattle.page_directives.specs.Faults.{fault_if}
use Rattle.page_directives.specs.Tables.{taglib_table, core_uris, function_uris, refused_prefixes}

abbrev pub is_same_target : Target → Target → Bool
is_same_target target.CoreLibrary target.CoreLibrary = true
is_same_target target.FunctionLibrary target.FunctionLibrary = true
is_same_target (target.TagFolder one) (target.TagFolder other) = bytes_eq one other
is_same_target _ _ = false

-- the folder `/WEB-INF/tags`, or one below it
abbrev pub is_tag_folder : List ℕ → Bool
is_tag_folder path = bytes_eq path (codes "/WEB-INF/tags") || begins (codes "/WEB-INF/tags/") path

abbrev pub folder_target : Result (List ℕ) BadPath → Option Target
folder_target (Err fault) = None
folder_target (Ok path) = if is_tag_folder path then Some (target.TagFolder path) else None

abbrev pub tagdir_target : Option (List ℕ) → Option Target
tagdir_target None = None
tagdir_target (Some text) = if begins (codes "/") text then folder_target (resolved (segments None text)) else None

abbrev pub uri_target : Option (List ℕ) → Option Target
uri_target None = None
uri_target (Some uri) = if contains_text uri core_uris then Some target.CoreLibrary else if contains_text uri function_uris then Some target.FunctionLibrary else None

-- the target that one of `uri` and `tagdir` names
abbrev pub target_in : List Attribute → Option Target
target_in attributes =
    if has_name (codes "uri") attributes
    then (if has_name (codes "tagdir") attributes then None else uri_target (value_of (codes "uri") attributes))
    else tagdir_target (value_of (codes "tagdir") attributes)

-- the prefix of a taglib directive
abbrev pub prefix_in : Directive → Option (List ℕ)
prefix_in d = if is_named (codes "taglib") d then value_of (codes "prefix") d.attributes else None

abbrev pub is_prefix : List ℕ → Option (List ℕ) → Bool
is_prefix prefix None = false
is_prefix prefix (Some other) = bytes_eq prefix other

-- a target, or else another
abbrev pub or_target : Option Target → Option Target → Option Target
or_target (Some target) other = Some target
or_target None other = other

-- what a prefix stands for behind these directives: the first target that was registered for it
abbrev pub target_of : List ℕ → List Directive → Option Target
target_of prefix [] = None
target_of prefix (d ∷ before) = if is_prefix prefix (prefix_in d) then or_target (target_in d.attributes) (target_of prefix before) else target_of prefix before

-- the prefixes that directives register for the cutting of text, whatever faults they have
abbrev pub prefixes_of : List Directive → List (List ℕ)
prefixes_of [] = []
prefixes_of (d ∷ ds) = option_to_list (prefix_in d) ++ prefixes_of ds

-- the prefixes that stand in a text before a colon and a name, behind a `<`
abbrev pub prefix_of_tag : Option TagName → List (List ℕ)
prefix_of_tag None = []
prefix_of_tag (Some tag) = tag.prefix ∷ []

abbrev pub prefixes_in_text : List ℕ → List (List ℕ)
prefixes_in_text [] = []
prefixes_in_text (b ∷ text) = (if b == 60 then prefix_of_tag (tag_name_after (Some text)) else []) ++ prefixes_in_text text

abbrev pub clashes : Option Target → Option Target → Bool
clashes (Some one) (Some other) = not (is_same_target one other)
clashes _ _ = false

-- the faults of the prefix and its target: BadTaglib for a refused prefix, for one that stood in text, and without a target; Clash for another target
unfoldable pub registering_faults : (seen : List (List ℕ)) → List Directive → Option (List ℕ) → Option Target → List TranslationFault
registering_faults seen before None target = []
registering_faults seen before (Some prefix) target =
    if length prefix == 0 then [] else
    fault_if (not (is_some target) || (contains_text prefix refused_prefixes || contains_text prefix seen)) fault.BadTaglib
    ++ fault_if (clashes (target_of prefix before) target) fault.Clash

-- the faults of a taglib directive behind the directives before it and the prefixes that stood in text
unfoldable pub taglib_faults : (seen : List (List ℕ)) → List Directive → Directive → List TranslationFault
taglib_faults seen before d =
    attribute_faults taglib_table d.attributes
    ++ (fault_if (not (has_name (codes "prefix") d.attributes)) fault.BadDirective
    ++ (fault_if (has_repeat d.attributes) fault.BadAttribute
    ++ registering_faults seen before (value_of (codes "prefix") d.attributes) (target_in d.attributes)))
