pub mod Agreeing
pub mod EngineRuns
pub mod EachChoice
