pub use Rattle.page_answers.proofs.HeadLemmas
pub mod AskedLemmas
pub mod FindLemmas
pub mod LeadLemmas
