-- Document 02, W12, the eased row: read after crate volatile's.
pub mod Easing
