pub mod Endings
pub mod Month
pub mod Few
pub mod Fewest
