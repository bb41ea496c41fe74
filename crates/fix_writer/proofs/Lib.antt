-- Laws about bytes laid one after the other, about numbers in digits, and about messages that are written.
pub mod Laying
pub mod Decimals
pub mod Numbers
pub mod Framing
pub mod Fields
pub mod Values
pub mod Back
pub mod Lengths
pub mod Claims
