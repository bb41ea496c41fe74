-- Where the chosen row's part starts; `Internal` is what the crate's private functions promise, and no public contract cites it.
pub mod Starts
pub mod Internal
