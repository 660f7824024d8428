mod BufferLemmas
mod KeptLemmas
mod OutputLemmas
mod PieceLemmas
mod PutLemmas
mod SomePieces
mod StreamLemmas
