pub mod Conversation
pub mod Exchange
pub mod Refusal
pub mod Served
pub mod Told
