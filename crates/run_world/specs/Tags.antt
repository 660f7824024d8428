-- Tag files, in the words of the table.
use Rattle.run_world.specs.declared.program.TagProgram as machine_tag
use Rattle.page_table.specs.Program.{TagCode}

-- a tag file
abbrev pub tag_of : machine_tag.TagProgram → TagCode
tag_of tag = record { path = tag.path; decl = tag.decl; settings = tag.settings; code = tag.code }
