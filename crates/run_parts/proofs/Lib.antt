pub mod ExportLemmas
pub mod GivenLemmas
pub mod Lookups
pub mod ObjectLemmas
pub mod Operates
pub mod OwnParams
pub mod PropertySets
pub mod Visits
