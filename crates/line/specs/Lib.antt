-- The rules of `line`: what the console writes for a call, what makes its numbers decimal, and that its contract has one outcome.
pub mod Line
pub mod LineLaws
pub mod Unique
