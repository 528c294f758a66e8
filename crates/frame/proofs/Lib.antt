-- `Ground` has what the proofs of all crates share, `Folds` the rules as the library's folds and searches, `Heard` what the
-- receiver's rule tells of what it gives, `Told` what the builder's does, `Lent` a buffer that is lent part by part; `Samples`
-- computes the rules on samples. `Numbers`, `NumberLaws`, `Laws` and `Unique` have the proofs of what the files of that name in
-- specs/ state.
pub mod Ground
pub mod Folds
pub mod Numbers
pub mod Heard
pub mod Lent
pub mod Told
pub mod Held
pub mod Samples
pub mod NumberLaws
pub mod Laws
pub mod HoldingLaws
pub mod Unique
