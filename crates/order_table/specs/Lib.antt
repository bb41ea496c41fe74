-- The one value of the table's words for the live orders.
pub mod Table
-- What the functions on it promise to each other.
pub mod Internal
