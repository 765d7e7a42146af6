pub mod Copying
pub mod Operators
pub mod Patching
pub mod Recalling
pub mod Snapshots
pub mod Turns
