-- The proofs of `library`. What the functions' proofs share: records in bytes, a walk over them with `record_at`, and
-- rows of records.
pub mod Records
pub mod Walks
pub mod Stores
-- The laws, each file those of the statements of the same name; the samples.
pub mod StoreLaws
pub mod NumberLaws
pub mod Unique
pub mod Samples
