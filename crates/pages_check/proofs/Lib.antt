mod PageLemmas
mod ToldLemmas
