-- The claims proved, one file each.
pub mod OldCharges
pub mod OldMonths
pub mod DayOrder
