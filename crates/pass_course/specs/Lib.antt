pub mod Course
pub mod Under
pub mod Laws
