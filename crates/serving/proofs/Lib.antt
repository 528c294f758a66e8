-- What the proofs of the functions cite beside the libraries' laws, the law of a byte, and that the contracts have one outcome.
pub mod Laws
pub mod HoldLaws
pub mod Unique
