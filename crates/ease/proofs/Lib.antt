-- Laws that the crate's proofs cite, and what is shown of an eased row.
pub mod Rows
pub mod Words
pub mod Opening
