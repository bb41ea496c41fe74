pub mod Order
pub mod Calls
pub mod Roll
pub mod Internal
