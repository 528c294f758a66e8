-- The rules of `calendar`: what a real moment is, the next one, the day before, the texts of a moment, and what is printed of it; what is
-- true of them; that every contract has one outcome.
pub mod Clock
pub mod DateChange
pub mod ClockLaws
pub mod DateChangeLaws
pub mod Unique
