-- The words of orders, one after the other.
pub mod Orders
-- The live order with an id.
pub mod Named
-- The words in front of the orders'.
pub mod Heads
-- What they hold, by the events of a quantum and the calls of a month.
pub mod Shows
