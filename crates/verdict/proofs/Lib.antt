-- Laws about numbers that the crate's proofs cite.
pub mod Weights
