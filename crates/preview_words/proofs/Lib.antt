pub mod AnsweredLemmas
pub mod OwnLemmas
pub mod PictureLemmas
pub mod StampLemmas
