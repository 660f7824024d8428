pub mod Backward
pub mod OneConversation
pub mod ServedLemmas
pub mod Told
pub mod WalkLemmas
