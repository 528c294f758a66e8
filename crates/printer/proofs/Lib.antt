-- The proofs of `printer`. What the functions' proofs share: numbers and digits in bytes, digits by powers of ten, counters, jets and the whole state in their
-- bytes, a jet's part of the state, the jets of a head, what a valid state tells, orders, answers and prints.
pub mod Numbers
pub mod Powers
pub mod Counters
pub mod Jets
pub mod Memory
pub mod Part
pub mod Head
pub mod Valid
pub mod Orders
pub mod Said
pub mod Prints
pub mod Bytewise
-- The laws, each file those of the statements of the same name; `Rows` has what they share, `Bodies` what a well-formed store tells.
pub mod CounterLaws
pub mod BytesLaws
pub mod Rows
pub mod StateLaws
pub mod PrintLaws
pub mod Bodies
pub mod OrderLaws
pub mod Outcomes
pub mod NumberLaws
pub mod OutcomeLaws
pub mod Unique
pub mod Samples
-- The demands: refusals, what is accepted, what a call sets, what was built, edits and updates, where a refusal stands, the store, prints; then every state that calls lead to, its room, its
-- bytes and its messages; and all of them on one page.
pub mod Refusing
pub mod Accepting
pub mod Setting
pub mod Building
pub mod Editing
pub mod Placing
pub mod Storing
pub mod Printing
pub mod Rooms
pub mod Written
pub mod Leading
pub mod Following
pub mod Reaching
pub mod Bursts
pub mod Demands
