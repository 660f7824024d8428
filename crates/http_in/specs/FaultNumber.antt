-- The numbers of faults.
use Rattle.std.specs.Prelude.{ℕ}
use Rattle.http_in.specs.declared.fault.HttpFault.{HttpFault}
use Rattle.http_in.specs.declared.fault.HttpFault.TheVariants as http

-- the number of a fault
abbrev pub fault_number : HttpFault → ℕ
fault_number http.HeadTooLarge = 1
fault_number http.BadHead = 2
fault_number http.WrongVersion = 3
fault_number http.ChunkedRequest = 4
fault_number http.BadLength = 5
fault_number http.BodyTooLarge = 6
fault_number http.CutOff = 7
fault_number http.ReadFault = 8
