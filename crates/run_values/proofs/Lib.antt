mod AddressLemmas
mod CookieLemmas
mod NameListLemmas
mod PropertyLemmas
mod RoundLemmas
mod StatusLemmas
mod TableLemmas
