pub mod Internal
pub mod Months
pub mod Views
