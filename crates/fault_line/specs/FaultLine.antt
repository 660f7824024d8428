-- The line that tells a fault of a page.
use Rattle.std.specs.Prelude.{ℕ, List, ◌++◌, codes, decimal}
use Rattle.pg_text.specs.Faults.{name_of, number_of}
use Rattle.pg_text.specs.declared.place.PageFault.{PageFault}
use Rattle.pg_text.specs.declared.place.Place.{Place}

-- a place as `/a.jsp:1:7`
abbrev pub place_text : Place → List ℕ
place_text place = place.file ++ codes ":" ++ decimal place.line ++ codes ":" ++ decimal place.column

-- a page's fault as `E8 NoFile /p.jsp:1:1`
abbrev pub page_fault_line : PageFault → List ℕ
page_fault_line f = codes "E" ++ decimal (number_of f.fault) ++ codes " " ++ name_of f.fault ++ codes " " ++ place_text f.place
