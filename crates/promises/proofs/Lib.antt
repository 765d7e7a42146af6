pub mod Rerun
pub mod Calls
