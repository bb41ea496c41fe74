-- What the test of the frame promises to the reader of messages and to the scan of a log.
pub mod Frames
