-- The proofs of `calendar`: what a real moment tells, part by part; the laws of the clock and of the date change; that every contract has one outcome.
pub mod Moments
pub mod ClockLaws
pub mod DateChangeLaws
pub mod Unique
