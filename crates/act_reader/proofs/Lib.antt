pub mod BeforeLemmas
pub mod ContentLemmas
pub mod ReadingLemmas
pub mod RoleLemmas
pub mod WrittenLemmas
