-- Programs, in the words of the table.
use Rattle.std.specs.Prelude.{map}
use Rattle.std.specs.Arc.{arc_value}
use Rattle.run_world.specs.declared.program.Program as machine_program
use Rattle.run_world.specs.Tags.{tag_of}
use Rattle.page_table.specs.Program.{Program, Stored, absent, plain, bad, good}
use Rattle.site_words.specs.declared.app_port.Paged.{Paged}
use Rattle.site_words.specs.declared.app_port.Paged.TheVariants as found

-- a page
abbrev pub program_of : machine_program.Program → Program
program_of program = record { path = program.path; settings = program.settings; code = program.code; tags = map tag_of program.tags }

-- what stands at a path, as the port tells it
abbrev pub stored_of : Paged machine_program.Program → Stored
stored_of found.Absent = absent
stored_of (found.Plain content) = plain content
stored_of (found.Bad fault) = bad fault
stored_of (found.Page program) = good (program_of (arc_value program))
