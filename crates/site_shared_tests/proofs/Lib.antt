mod ReadyLemmas
mod VisitLemmas
