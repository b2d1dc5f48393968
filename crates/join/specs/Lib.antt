pub mod Calls
pub mod Results
pub mod Agreeing
pub mod Refuted
