pub mod ReadBusy
