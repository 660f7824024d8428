pub mod AmongLemmas
pub mod PlayLemmas
pub mod SiteLemmas
