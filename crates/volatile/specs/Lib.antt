-- Document 02, W12, from sigmas to the answer: read from the top, after crate sigma's. Internal is what the code holds from day to day; no
-- public contract cites it.
pub mod Periods
pub mod Answers
pub mod Internal
