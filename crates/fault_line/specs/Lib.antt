pub mod FaultLine
