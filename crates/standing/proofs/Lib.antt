pub mod Afresh
pub mod Reading
pub mod Running
