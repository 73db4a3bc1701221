pub mod ComputedRuns
pub mod Laws
