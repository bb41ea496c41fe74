-- Laws about a level and its change, about the words of a side and the columns in them, about the keys next to one, about guesses and
-- the sums made for them, and about what the search starts from and finds.
pub mod Depths
pub mod Nexts
pub mod Counts
pub mod Blanks
pub mod Parts
pub mod Starts
pub mod Requotes
pub mod Candidates
