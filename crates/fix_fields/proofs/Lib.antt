-- Laws about fields: where one ends, which tag it has, what the fields of a list of bytes are. Those that speak of lists alone are also
-- for the crates above.
pub mod Passing
pub mod Slots
pub mod Pieces
pub mod Tags
pub mod SlotTags
pub mod Bytes
pub mod Closing
pub mod Spanning
pub mod Holding
pub mod Searching
pub mod LongTags
pub mod ShortTags
