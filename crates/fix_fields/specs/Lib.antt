-- What the search for fields promises to the reader of messages.
pub mod Ends
pub mod Tags
pub mod Spans
