-- The proofs of `line`: the laws of a line that is written, that numbers read back, the documents' lines computed over the rule, and that the contract has one outcome.
pub mod Laws
pub mod LineLaws
pub mod Samples
pub mod Unique
