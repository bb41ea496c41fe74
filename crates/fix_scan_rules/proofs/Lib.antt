-- Laws of the scan: a log worked out, W11 as a case, the scan place by place, chunks, and what a row says.
pub mod Checks
pub mod Narrowing
pub mod Scanning
pub mod Chunks
pub mod Meaning
