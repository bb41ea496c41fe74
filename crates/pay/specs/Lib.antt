-- The cells that a month's fee is worked out from.
pub mod Months
