-- What the functions of a message and of a commit promise to each other.
pub mod Internal
