-- What the scan of a log promises. Internal is only what private functions promise each other.
pub mod RowsDone
pub mod Internal
