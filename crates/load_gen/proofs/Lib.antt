pub mod CountLemmas
pub mod SentLemmas
