-- Laws about tables and about the card that the crate's proofs cite.
pub mod Constants
pub mod Tables
pub mod Right
pub mod Card
