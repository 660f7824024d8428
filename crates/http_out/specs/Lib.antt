pub mod ContentType
pub mod Full
pub mod Head
pub mod Methods
pub mod Response
pub mod Sent
pub mod Status
