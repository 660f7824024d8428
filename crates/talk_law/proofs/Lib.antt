pub mod Alone
pub mod Steps
pub mod Turns
pub mod Requests
pub mod Messages
pub mod Exchanges
pub mod Talks
pub mod RightTalks
