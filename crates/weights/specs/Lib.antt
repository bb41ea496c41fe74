-- What the weight card holds.
pub mod Card
