mod EditLemmas
pub mod OrderLemmas
mod PathLemmas
pub mod LimitLemmas
pub mod LawLemmas
pub mod RisingLemmas
