pub mod CourseLemmas
pub mod UnderLemmas
