pub mod Internal
pub mod Sessions
