pub mod Buffers
pub mod Walks
pub mod Records
pub mod Openings
pub mod Turns
pub mod Gathering
pub mod Loop
