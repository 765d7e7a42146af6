pub mod Bounds
pub mod Laws
pub mod Lay
pub mod Measured
pub mod Signed
