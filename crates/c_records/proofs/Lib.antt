-- The buffers on entry, and what the call answers.
pub mod Records
