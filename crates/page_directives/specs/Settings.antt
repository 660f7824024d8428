-- What the page directives of a page, or the tag directives of a tag file, say together.
use Rattle.std.specs.Prelude.{ℕ, ◌+◌, Bool, true, false, not, ◌&&◌, ◌||◌, List, [], ◌∷◌, ◌++◌, codes, take, Option, Some, None, if◌then◌else◌}
use Rattle.std.specs.Option.{unwrap_or, option_and_then}
use Rattle.std.specs.Str.{bytes_eq}
use Rattle.pg_value.specs.declared.settings.PageSettings.{PageSettings}
use Rattle.pg_text.specs.declared.translation_fault.TranslationFault.{TranslationFault}
use Rattle.pg_text.specs.declared.translation_fault.TranslationFault.TheVariants as fault
use Rattle.page_pieces.specs.declared.attribute.Attribute.{Attribute}
use Rattle.page_pieces.specs.Settings.{contains_text, plain_text, value_of}
use Rattle.page_directives.specs.Checks.{Table, attribute_faults, by_row, buffer_size}
use Rattle.page_directives.specs.ContentType.{content_type}
use Rattle.page_directives.specs.Directive.{Directive, before_in, is_named, row_of}
use Rattle.page_directives.specs.Faults.{fault_if, is_good}
use Rattle.page_directives.specs.Tables.{page_table, tag_table, repeatable}

-- the name of the directives that give settings
abbrev pub giver : (in_tag : Bool) → List ℕ
giver true = codes "tag"
giver false = codes "page"

unfoldable pub giver_table : (in_tag : Bool) → Table
giver_table true = tag_table
giver_table false = page_table

-- all attributes of the directives of that name, in order
abbrev pub given : List ℕ → List Directive → List Attribute
given name [] = []
given name (d ∷ ds) = (if is_named name d then d.attributes else []) ++ given name ds

-- a value is another than the first of that attribute
abbrev pub differs : Option (List ℕ) → Option (List ℕ) → Bool
differs (Some value) (Some first) = not (bytes_eq value first)
differs _ _ = false

-- an attribute that was given before has another value, among all that are given
abbrev pub has_clash : List Attribute → List Attribute → Bool
has_clash all [] = false
has_clash all (a ∷ attributes) = (not (contains_text a.name repeatable) && differs (plain_text a.parts) (value_of a.name all)) || has_clash all attributes

abbrev pub is_value : List ℕ → Option (List ℕ) → Bool
is_value text None = false
is_value text (Some value) = bytes_eq value text

-- the first value of an attribute that isn't refused decides
abbrev pub decided : Table → List ℕ → List Attribute → Option (List ℕ)
decided table name [] = None
decided table name (a ∷ attributes) =
    if bytes_eq a.name name && is_good (by_row (row_of name table) a) then plain_text a.parts else decided table name attributes

-- what the directives that give settings decide of an attribute
abbrev pub decided_by : (in_tag : Bool) → List Directive → List ℕ → Option (List ℕ)
decided_by in_tag ds name = decided (giver_table in_tag) name (given (giver in_tag) ds)

-- these directives decide that there is neither a buffer nor flushing
abbrev pub is_unbuffered : (in_tag : Bool) → List Directive → Bool
is_unbuffered in_tag ds = is_value (codes "none") (decided_by in_tag ds (codes "buffer")) && is_value (codes "false") (decided_by in_tag ds (codes "autoFlush"))

-- with this directive the first reading has decided so, and before it hadn't. Its directives alone decide settings, also those that the second reading doesn't
-- meet, each where it stands in the first: so a directive of the second reading alone changes nothing here, and one of the first alone counts for those behind it
abbrev pub unbuffers : (in_tag : Bool) → (first : List Directive) → Directive → Bool
unbuffers in_tag first d = is_unbuffered in_tag (take (before_in first d + 1) first) && not (is_unbuffered in_tag (take (before_in first d) first))

-- the faults of a directive that gives settings, behind the directives before it; `first` are all directives of the first reading
unfoldable pub setting_faults : (in_tag : Bool) → (first before : List Directive) → Directive → List TranslationFault
setting_faults in_tag first before d =
    attribute_faults (giver_table in_tag) d.attributes
    ++ (fault_if (has_clash (given (giver in_tag) before ++ d.attributes) d.attributes) fault.Clash ++ fault_if (unbuffers in_tag first d) fault.UnbufferedNoFlush)

-- a truth value, or else this one
abbrev pub truth_or : Bool → Option (List ℕ) → Bool
truth_or other None = other
truth_or other (Some text) = bytes_eq text (codes "true")

-- the settings that values of attributes give
abbrev pub settings_by : (List ℕ → Option (List ℕ)) → PageSettings
settings_by value = record {
  session = truth_or true (value (codes "session"));
  buffer = unwrap_or (option_and_then buffer_size (value (codes "buffer"))) (Some 8192);
  auto_flush = truth_or true (value (codes "autoFlush"));
  error_page = value (codes "errorPage");
  content_type = unwrap_or (option_and_then content_type (value (codes "contentType"))) (codes "text/html;charset=UTF-8");
  el = not (truth_or false (value (codes "isELIgnored")));
  hash_is_text = truth_or false (value (codes "deferredSyntaxAllowedAsLiteral"));
  trim = truth_or false (value (codes "trimDirectiveWhitespaces"));
  not_found_is_fault = truth_or false (value (codes "errorOnELNotFound"));
}

-- the settings that directives of the first reading decide
unfoldable pub settings_of : (in_tag : Bool) → List Directive → PageSettings
settings_of in_tag ds = settings_by (decided_by in_tag ds)
