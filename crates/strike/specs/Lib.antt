-- Document 02, W4: a strike's spread limit as one number of steps.
pub mod Widest
