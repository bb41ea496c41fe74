pub mod Months
pub mod Views
