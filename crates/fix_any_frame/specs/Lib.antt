-- What the test of the frame of any type promises to the scan of a log.
pub mod AnyFrames
