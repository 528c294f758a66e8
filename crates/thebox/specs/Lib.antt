-- The rules of the box on a line: what bytes, one by one, and the time make of it; and that of a burst they make what the first receiver makes.
pub mod Line
pub mod BurstLaws
