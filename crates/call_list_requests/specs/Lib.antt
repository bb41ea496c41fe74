-- The claims of the requests about what the list runner writes.
-- document 02, W6: half percents, old months
pub mod OldMonths
-- document 02, W8: larger charges
pub mod OldCharges
-- document 02, W9: days filled in another order
pub mod DayOrder
