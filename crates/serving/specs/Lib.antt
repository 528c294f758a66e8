-- The rules of a program on a line: what comes of a byte, the time that goes by, the words it is started with; that a byte comes to what it
-- comes to by the receiver for single bytes, and that the contracts have one outcome.
pub mod Hold
pub mod HoldLaws
pub mod Pace
pub mod Words
pub mod Unique
