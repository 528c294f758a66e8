-- The proofs of `content`: the samples; what the machine makes of bytes and trees; and from there the laws of the language, of changes,
-- of strips and of places, and that every contract has one outcome.
pub mod Laws
pub mod Hopeless
pub mod Samples
pub mod Bytes
pub mod Front
pub mod Good
pub mod Run
pub mod Path
pub mod Trees
pub mod Resolved
pub mod Pieces
pub mod Changes
pub mod ChangeLaws
pub mod StripLaws
pub mod PlaceLaws
pub mod Name
pub mod NumberLaws
pub mod Unique
pub mod Told
pub mod Tokens
pub mod Walk
pub mod Puts
pub mod Room
pub mod Stretches
pub mod Laying
