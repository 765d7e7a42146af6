pub mod Call
pub mod Code
pub mod Laws
pub mod Statement
pub mod Words
