pub mod OneShare
