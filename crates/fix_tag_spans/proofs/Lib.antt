-- Laws about wanted tags: their table, what a tag's slot says, the words of a slot after a further field, and the search turn by turn.
pub mod Wanting
pub mod Tagging
pub mod TagSlots
pub mod Noting
pub mod AnySearching
