-- The claims proved, one file each.
pub mod OldMonths
pub mod OldCharges
pub mod DayOrder
pub mod OwnMonth
pub mod AsCalls
pub mod Outlooks
