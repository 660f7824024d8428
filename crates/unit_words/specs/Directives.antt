-- What is met at a directive.
use Rattle.std.specs.Prelude.{Bool, false, List, [], ◌∷◌, ◌++◌, filter, if◌then◌else◌}
use Rattle.page_directives.specs.Directive.{Directive}
use Rattle.page_directives.specs.declared.before.Where.{Where}
use Rattle.page_directives.specs.declared.before.Where.TheVariants as file
use Rattle.page_directives.specs.Meet.{Before, met_faults}
use Rattle.tag_decl.specs.Declare.{attributes_of}
use Rattle.tag_decl.specs.Faults.{declaring_faults}
use Rattle.unit_source.specs.declared.entry.Entry.{Entry}
use Rattle.unit_source.specs.declared.entry.Entry.TheVariants.{Unnamed, Absent, Cycle, Entered, Unread}
use Rattle.unit_source.specs.Root.{Root}
use Rattle.unit_words.specs.Own.{stands_in, root_directives}
use Rattle.unit_words.specs.Counts.{counted, count_faults, is_counted}
use Rattle.unit_words.specs.State.{State, Reading, met, faults_at, with_directive, behind_count}
use Rattle.pg_text.specs.declared.translation_fault.TranslationFault.{TranslationFault}
use Rattle.pg_text.specs.declared.translation_fault.TranslationFault.TheVariants as fault

-- where a directive of a page or tag file stands
abbrev pub where_stands : Root → Directive → Where
where_stands root d = if root.in_tag then (if stands_in root.path d then file.TagFile else file.TagFilePart) else file.Page

-- the faults of what a directive of a tag file declares
abbrev pub tag_file_faults : Where → Root → Before → Directive → List TranslationFault
tag_file_faults file.TagFile root before d = declaring_faults (attributes_of (root_directives root)) (filter (stands_in root.path) before.directives) d
tag_file_faults _ root before d = []

-- the faults of a directive, apart from what its file comes to
abbrev pub directive_faults : Root → Before → Directive → List TranslationFault
directive_faults root before d =
    let stands = where_stands root d in met_faults stands root.first before d ++ tag_file_faults stands root before d

abbrev pub directive_met : Root → Directive → State → Reading
directive_met root d s = met (faults_at d.place (directive_faults root s.before d)) (with_directive d s)

abbrev pub entry_faults : Entry → State → List TranslationFault
entry_faults Unnamed s = []
entry_faults Absent s = fault.NoFile ∷ []
entry_faults Cycle s = fault.IncludeCycle ∷ []
entry_faults (Entered bytes) s = count_faults (counted bytes s.counts)
entry_faults (Unread bytes) s = count_faults (counted bytes s.counts)

abbrev pub behind_entry : Entry → State → State
behind_entry (Entered bytes) s = behind_count bytes s
behind_entry (Unread bytes) s = behind_count bytes s
behind_entry _ s = s

-- reading goes into the file
abbrev pub goes_in : Entry → State → Bool
goes_in (Entered bytes) s = is_counted (counted bytes s.counts)
goes_in _ s = false

-- what is met at an include directive
abbrev pub include_met : Root → Directive → Entry → State → Reading
include_met root d entry s =
    met (faults_at d.place (directive_faults root s.before d ++ entry_faults entry s)) (with_directive d (behind_entry entry s))
