-- What an outlook is asked of, and what it promises.
pub mod Represents
-- What its functions promise to each other.
pub mod Internal
