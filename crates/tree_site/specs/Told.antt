-- What is made of a page, as a port tells it.
use Rattle.compiled_pages.specs.declared.made.MadeBody.{MadeBody}
use Rattle.compiled_pages.specs.declared.made.MadeBody.TheVariants as kept
use Rattle.run_world.specs.declared.program.Program.{Program}
use Rattle.site_words.specs.declared.app_port.Paged.{Paged}
use Rattle.site_words.specs.declared.app_port.Paged.TheVariants as found

-- a program or a fault
abbrev pub body_told : MadeBody → Paged Program
body_told (kept.Program program) = found.Page program
body_told (kept.Fault fault) = found.Bad fault
