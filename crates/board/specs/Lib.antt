-- Document 02, W4: what the test of a board answers. The board itself is Boards of `rules`; Tests is only how the code tests it, and the
-- public contract does not cite it.
pub mod Answers
pub mod Internal
