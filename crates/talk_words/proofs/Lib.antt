pub mod GrownLemmas
pub mod NotedLemmas
pub mod RefusalLemmas
pub mod ServedLemmas
pub mod UseLemmas
pub mod VersionLemmas
pub mod WorkLemmas
