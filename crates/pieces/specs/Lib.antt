pub mod Change
pub mod Entry
pub mod Expression
pub mod Laws
pub mod Old
pub mod Snapshot
pub mod Unbroken
