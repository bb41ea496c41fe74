pub mod Extras
