-- The rules of `printer`, a page for each room.
pub mod Number
pub mod Counter
pub mod Settings
pub mod Jet
pub mod State
pub mod Order
pub mod Answer
pub mod Change
pub mod Messages
pub mod Request
pub mod Print
pub mod Receive
pub mod Single
pub mod Call
-- What is true of them, as statements; the demands; that every contract has one outcome; the samples.
pub mod CounterLaws
pub mod BytesLaws
pub mod StateLaws
pub mod OrderLaws
pub mod NumberLaws
pub mod PrintLaws
pub mod OutcomeLaws
pub mod Demands
pub mod Bursts
pub mod Unique
pub mod Samples
