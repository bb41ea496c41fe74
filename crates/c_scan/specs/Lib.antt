-- What the scan of a log answers to a program in C.
pub mod Scans
