pub mod Words
pub mod Counted
pub mod Laid
pub mod Demand
