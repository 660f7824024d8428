pub mod ReadChecks
