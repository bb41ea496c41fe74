-- What a call on a month in lent words promises.
pub mod Calling
-- What its functions promise to each other.
pub mod Internal
