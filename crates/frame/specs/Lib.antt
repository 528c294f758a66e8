-- The rules of `frame`: `Ground` has the words that all crates share, `Numbers` the order of the numbers, each room of src/ has
-- its page of rules; `NumberLaws` says which number is given, `Laws` what else holds of them together, `Unique` that no contract allows
-- a second outcome.
pub mod Ground
pub mod Given
pub mod Numbers
pub mod Wire
pub mod Receive
pub mod Build
pub mod Holding
pub mod NumberLaws
pub mod Laws
pub mod HoldingLaws
pub mod Unique
