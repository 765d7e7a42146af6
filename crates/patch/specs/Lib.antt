pub mod Branch
pub mod Call
pub mod Fresh
pub mod Head
pub mod Laws
pub mod Loop
pub mod Statement
