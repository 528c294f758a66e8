-- What the program's proofs cite beside the libraries' laws, and that the contracts have one outcome.
pub mod Laws
pub mod Unique
pub mod Walking
pub mod Consuming
