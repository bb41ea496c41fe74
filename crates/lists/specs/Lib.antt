-- Terms of general use.
pub mod Lists
