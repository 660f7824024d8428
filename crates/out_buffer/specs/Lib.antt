pub mod Held
pub mod Laws
pub mod ReadBuffer
pub mod ReadStream
pub mod Streamed
pub mod Writer
