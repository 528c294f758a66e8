-- The rules of `library`: what a record is, and the store that records lie in.
pub mod Record
pub mod Store
-- What is true of them, as statements; that every contract has one outcome.
pub mod StoreLaws
pub mod NumberLaws
pub mod Unique
