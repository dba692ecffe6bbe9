pub mod Results
pub mod ListRuns
