-- The lines and the record that tell a fault.
use Rattle.std.specs.Prelude.{ℕ, List, ◌++◌, codes, decimal}
pub use Rattle.fault_line.specs.FaultLine.{place_text, page_fault_line}
use Rattle.pg_text.specs.declared.place.Place.{Place}
use Rattle.pg_value.specs.Datum.{Datum, text, rec, no_entries, entry}
use Rattle.pg_value.specs.RunFault.{name_of, number_of}
use Rattle.pg_value.specs.declared.fault.RunFault.{RunFault}

-- a fault that a run raised, with its place
pub record Raise : Type 0 where
  pub fault : RunFault
  pub place : Place

-- a run's fault by its letter and number, as `X3`
abbrev pub code_of : RunFault → List ℕ
code_of fault = codes "X" ++ decimal (number_of fault)

-- a run's fault as `X3 ZeroDivisor /a.jsp:1:7`
abbrev pub run_fault_line : Raise → List ℕ
run_fault_line r = code_of r.fault ++ codes " " ++ name_of r.fault ++ codes " " ++ place_text r.place

-- the record of a run's fault: its code, and its line as the message
abbrev pub fault_record : Raise → Datum
fault_record r = rec (entry (codes "code") (text (code_of r.fault)) (entry (codes "message") (text (run_fault_line r)) no_entries))
