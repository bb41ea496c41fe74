-- Laws about years and months counted day by day, and about the form of a time. Timed is also for the crates above.
pub mod Ranges
pub mod Years
pub mod Months
pub mod Forms
pub mod Reading
pub mod Answers
