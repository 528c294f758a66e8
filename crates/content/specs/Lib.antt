-- The rules of `content`: what a byte may be, the machine, the items, what a content is, its character positions, edits, updates and
-- strips; beside them the grammar, whose trees the contents are; and the laws.
pub mod Byte
pub mod Machine
pub mod Content
pub mod Position
pub mod Edit
pub mod Update
pub mod Strip
pub mod Item
pub mod Grammar
pub mod Marks
pub mod Tree
pub mod Laws
pub mod Hopeless
pub mod ChangeLaws
pub mod StripLaws
pub mod PlaceLaws
pub mod NumberLaws
pub mod Unique
