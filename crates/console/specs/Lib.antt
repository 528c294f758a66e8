-- The rules of `console`: the start, each call's line, and the walk through the bytes read; and that the contracts have one outcome.
pub mod Console
pub mod Unique
