-- What a block shows and promises.
pub mod Blocks
pub mod Internal
