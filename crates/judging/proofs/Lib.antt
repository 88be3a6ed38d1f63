pub mod Runs
pub mod Filling
pub mod Bags
pub mod Verdicts
pub mod LiteralRuns
pub mod BodyVerdicts
