-- The faults of a directive by what stands before it. What an include directive's file comes to, and what a tag file declares, isn't said here.
use Rattle.std.specs.Prelude.{ℕ, Bool, true, false, not, ◌&&◌, List, [], ◌∷◌, ◌++◌, codes, if◌then◌else◌}
use Rattle.pg_text.specs.declared.translation_fault.TranslationFault.{TranslationFault}
use Rattle.pg_text.specs.declared.translation_fault.TranslationFault.TheVariants as fault
use Rattle.page_pieces.specs.Repeats.{has_name, has_repeat}
use Rattle.page_directives.specs.declared.before.Where.{Where}
use Rattle.page_directives.specs.declared.before.Where.TheVariants as file
use Rattle.page_directives.specs.Checks.{attribute_faults}
use Rattle.page_directives.specs.Directive.{Directive, is_named}
use Rattle.page_directives.specs.Faults.{fault_if}
use Rattle.page_directives.specs.Settings.{setting_faults}
use Rattle.page_directives.specs.Tables.{include_table}
use Rattle.page_directives.specs.Taglibs.{taglib_faults}

-- what stood before in the page or the tag file with its includes: directives, and prefixes in template text
pub record Before : Type 0 where
  pub directives : List Directive
  pub prefixes : List (List ℕ)

abbrev pub nothing_before : Before
nothing_before = record { directives = []; prefixes = [] }

-- an include directive names a file once, without an expression
abbrev pub include_faults : Directive → List TranslationFault
include_faults d = attribute_faults include_table d.attributes ++ (fault_if (not (has_name (codes "file") d.attributes)) fault.BadDirective ++ fault_if (has_repeat d.attributes) fault.BadAttribute)

-- where the directives stand that give settings
abbrev pub may_give : (in_tag : Bool) → Where → Bool
may_give false file.Page = true
may_give true file.TagFile = true
may_give _ _ = false

-- a directive gives settings in a file of its kind alone
abbrev pub giving_faults : (in_tag : Bool) → Where → (first before : List Directive) → Directive → List TranslationFault
giving_faults in_tag stands first before d = if may_give in_tag stands then setting_faults in_tag first before d else fault.BadDirective ∷ []

-- `attribute` and `variable` may stand in a tag file itself, and no other directive may stand anywhere
abbrev pub other_faults : Where → Directive → List TranslationFault
other_faults file.TagFile d = fault_if (not (is_named (codes "attribute") d) && not (is_named (codes "variable") d)) fault.BadDirective
other_faults _ d = fault.BadDirective ∷ []

-- the faults of a directive in such a file, behind what stands before; `first` are all directives of the first reading of the page or tag file
unfoldable pub met_faults : Where → (first : List Directive) → Before → Directive → List TranslationFault
met_faults stands first before d =
    if is_named (codes "include") d then include_faults d
    else if is_named (codes "taglib") d then taglib_faults before.prefixes before.directives d
    else if is_named (codes "page") d then giving_faults false stands first before.directives d
    else if is_named (codes "tag") d then giving_faults true stands first before.directives d
    else other_faults stands d
