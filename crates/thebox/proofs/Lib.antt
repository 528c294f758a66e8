-- What the program's proofs cite beside the libraries' laws, and the law of a burst.
pub mod Laws
pub mod Burst
