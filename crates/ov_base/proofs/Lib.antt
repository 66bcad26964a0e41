pub mod PathLemmas
pub mod LinkTargets
pub mod UserPlaces
pub mod EventNames
pub mod PlainLemmas
