-- The claims of the requests about the plain book, and the terms of before them.
pub mod Before
-- document 02, W6: half percents, old months
pub mod OldMonths
-- document 02, W8: larger charges
pub mod OldCharges
-- document 02, W9: days filled in another order
pub mod DayOrder
-- a quantum's cell is the one that it leaves in a month of its own
pub mod OwnMonth
-- document 02, W11: messages in a list are their calls
pub mod AsCalls
-- our own call, outlook, is none of the papers'
pub mod Outlooks
